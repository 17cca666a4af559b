use Rattle.scc_blocks.specs.Declaring.{AreUndeclared}
use Rattle.scc_blocks.proofs.declare.undeclared.Given as goal

abbrev pub invariant-loop : goal.invariant-loop
invariant-loop l = AreUndeclared l.numbers.items
