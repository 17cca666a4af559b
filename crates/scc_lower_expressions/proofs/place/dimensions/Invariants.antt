use Rattle.std.proofs.Common.{map, take}
use Rattle.scc_lower_tree_laws.specs.Finding.{AreChosen}
use Rattle.scc_lower_expressions.specs.Becoming.{chosen_of}
use Rattle.scc_lower_expressions.proofs.place.dimensions.Given as goal

abbrev pub invariant-loop-dim : goal.invariant-loop-dim
invariant-loop-dim l = AreChosen l.left.parts (take l.dim-index l.dims) (map chosen_of l.found.items)
