use Rattle.std.proofs.Common.{◌≡◌, [], ◌∷◌, drop}
use Rattle.scc_rules_walks.specs.Cells.{spread}
use Rattle.scc_rules_walks.proofs.cells.spread.Given as goal

abbrev pub invariant-loop-k : goal.invariant-loop-k
invariant-loop-k l = spread l.cells.items (drop l.k l.dims) ≡ spread (l.base ∷ []) l.dims
