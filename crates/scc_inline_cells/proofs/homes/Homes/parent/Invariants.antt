use Rattle.std.proofs.Common.{◌≡◌, ◌≤◌, List, length}
use Rattle.scc_elab_design.specs.declared.Object.{Object}
use Rattle.scc_inline_cells.specs.Homes.{AreHomes, deepest}
use Rattle.scc_inline_cells.proofs.homes.Homes.parent.Given as goal

abbrev pub invariant-loop-k : goal.invariant-loop-k
invariant-loop-k l = record {
  within : l.k ≤ length l.path;
  rest : (os : List Object) → AreHomes l.self os → deepest os l.path (length l.path) ≡ deepest os l.path l.k;
}

abbrev pub decreases-loop-k : goal.decreases-loop-k
decreases-loop-k l = l.k
