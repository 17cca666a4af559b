use Rattle.scc_inline.specs.Named.{IsNew}
use Rattle.scc_inline.proofs.scope.Scope.new.Given as goal

abbrev pub invariant-loop : goal.invariant-loop
invariant-loop l = IsNew l.scope
