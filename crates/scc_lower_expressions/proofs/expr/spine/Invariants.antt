use Rattle.std.proofs.Common.{map}
use Rattle.scc_lower_expressions.specs.Becoming.{IsPath}
use Rattle.scc_lower_expressions.proofs.expr.spine.Given as goal

abbrev pub invariant-loop : goal.invariant-loop
invariant-loop l = IsPath l.fn.e (map (λ x. x.now) l.found.items) l.here
