use Rattle.std.proofs.Common.{◌≡◌, drop}
use Rattle.scc_tokens_directives.specs.Directive.{first_refusal}
use Rattle.scc_tokens_directives.proofs.directive.first_refusal.Given as goal

abbrev pub invariant-loop-t : goal.invariant-loop-t
invariant-loop-t l = first_refusal (drop l.t-index l.tokens) ≡ first_refusal l.tokens
