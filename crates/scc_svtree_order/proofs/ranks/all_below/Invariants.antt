use Rattle.std.proofs.Common.{◌≡◌, ◌<◌, ℕ, true, take}
use Rattle.std.specs.Prelude.{slice_index}
use Rattle.scc_svtree_order.specs.Fed.{has}
use Rattle.scc_svtree_order.proofs.ranks.all_below.Given as goal

abbrev pub invariant-loop-j : goal.invariant-loop-j
invariant-loop-j l = (i : ℕ) → has (take l.j-index l.list) i ≡ true → slice_index l.rank i < l.top
