-- How far the exits of statements leave the blocks around them.
use Rattle.std.specs.Prelude.{ℕ, suc, ◌+◌, ◌-◌, max, Bool, true, nat_lt, Option, Some, None, option_map}
use Rattle.scc_core_spec.specs.Code.{Code, End, Put, Aim, If, Block, Loop, Exit, Wait}

-- the further of two; None where a wait stands
abbrev pub both : Option ℕ → Option ℕ → Option ℕ
both None b = None
both (Some a) b = option_map (max a) b

-- one block less
abbrev pub lower : ℕ → ℕ
lower n = n - 1

-- how many blocks around the furthest exit leaves; None where a wait stands in the statements
abbrev pub reach : Code → Option ℕ
reach End = Some 0
reach (Put p l k e r) = reach r
reach (Aim p to t r) = reach r
reach (If p t a b r) = both (reach a) (both (reach b) (reach r))
reach (Block p b r) = both (option_map lower (reach b)) (reach r)
reach (Loop p n b r) = both (reach b) (reach r)
reach (Exit p n r) = both (Some (n + 1)) (reach r)
reach (Wait p l n r) = None

-- a block so far around is left, or a wait is met
abbrev pub reaches : ℕ → Option ℕ → Bool
reaches d None = true
reaches d (Some n) = nat_lt d n
