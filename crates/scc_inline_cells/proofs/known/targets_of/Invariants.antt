use Rattle.std.proofs.Common.{◌≡◌, ◌++◌, map, drop}
use Rattle.scc_inline_cells.proofs.known.targets_of.Given as goal

abbrev pub invariant-loop-target : goal.invariant-loop-target
invariant-loop-target l = l.pointers ++ map (λ t. t.object) (drop l.target-index l.target-items) ≡ map (λ t. t.object) l.target-items
