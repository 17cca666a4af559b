-- How many turns there may still be, and the loop of the first one too many.
use Rattle.std.specs.Prelude.{ℕ, ◌+◌, ◌-◌, nat_eq, if◌then◌else◌, List, [], ◌∷◌, Option, Some, None, option_map}
use Rattle.scc_core_spec.specs.Code.{Code}
use Rattle.scc_core_spec.specs.Counted.{Counter, Elsewhere, Setting, Turn, counter}
use Rattle.scc_core_spec.specs.Unrolled.{Spot, run_turns}
use Rattle.scc_unroll.specs.declared.limits.Budget.{Budget}
use Rattle.scc_unroll.specs.Spots.{spot_of}

pub record Left : Type 0 where
  pub left : ℕ
  pub over : Option Spot

abbrev pub budget_of : Budget → Left
budget_of b = record { left = b.left; over = option_map spot_of b.over }

abbrev pub took_by : Option Spot → ℕ → Spot → Left
took_by (Some o) n s = record { left = n; over = Some o }
took_by None n s = if nat_eq n 0 then record { left = n; over = Some s } else record { left = n - 1; over = None }

-- one turn more, of that loop
abbrev pub took : Left → Spot → Left
took b s = took_by b.over b.left s

abbrev pub after : Left → List Spot → Left
after b [] = b
after b (s ∷ ss) = after (took b s) ss

-- a turn of a loop, and those in it
abbrev pub turn_spots : Setting → List Counter → ℕ → Spot → Code → Turn → List Spot
turn_spots s ns n spot b x = spot ∷ run_turns s (counter n x.now ∷ ns) Elsewhere (spot.number + 1) b
