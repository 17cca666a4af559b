use Rattle.std.proofs.Common.{◌≡◌, take}
use Rattle.scc_core_view.specs.Codes.{code_of}
use Rattle.scc_lower_tree_laws.specs.Stating.{greatest}
use Rattle.scc_lower.proofs.exits.+exits.Given as goal

abbrev pub invariant-greatest_exit-loop-s : goal.invariant-greatest_exit-loop-s
invariant-greatest_exit-loop-s l = l.greatest ≡ greatest l.depth (code_of (take l.s-index l.body))
