-- What the first of some statements is by itself: how many it is, where the next one stands, and whether others stand in it.
use Rattle.std.specs.Prelude.{ℕ, ◌+◌, Bool, true, false, ◌||◌}
use Rattle.scc_core_spec.specs.Code.{Code, End, Put, Aim, If, Block, Loop, Exit, Wait, size}
use Rattle.scc_core_spec.specs.Counted.{Stand, Elsewhere, behind}

-- with what is in it
abbrev pub head_size : Code → ℕ
head_size End = 0
head_size (Put p l k e r) = 1
head_size (Aim p to t r) = 1
head_size (If p t a b r) = 1 + (size a + size b)
head_size (Block p b r) = 1 + size b
head_size (Loop p n b r) = 1 + size b
head_size (Exit p n r) = 1
head_size (Wait p l n r) = 1

-- where a statement behind it stands
abbrev pub stand_behind : Stand → Code → Stand
stand_behind w (Put p l k e r) = behind w (record { left = l; pick = k; value = e })
stand_behind w _ = Elsewhere

-- whether no statement stands in it
abbrev pub simple : Code → Bool
simple (If p t a b r) = false
simple (Block p b r) = false
simple (Loop p n b r) = false
simple _ = true

-- whether a loop stands in them
abbrev pub has_loops : Code → Bool
has_loops End = false
has_loops (Put p l k e r) = has_loops r
has_loops (Aim p to t r) = has_loops r
has_loops (If p t a b r) = has_loops a || (has_loops b || has_loops r)
has_loops (Block p b r) = has_loops b || has_loops r
has_loops (Loop p n b r) = true
has_loops (Exit p n r) = has_loops r
has_loops (Wait p l n r) = has_loops r
