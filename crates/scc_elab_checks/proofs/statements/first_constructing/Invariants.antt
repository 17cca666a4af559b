use Rattle.std.proofs.Common.{◌≡◌, None}
use Rattle.scc_elab_spec.specs.After.{constructing}
use Rattle.scc_plain_view.specs.Codes.{code_of}
use Rattle.scc_elab_checks.specs.Open.{waiting}
use Rattle.scc_elab_checks.proofs.statements.first_constructing.Given as goal

abbrev pub invariant-loop : goal.invariant-loop
invariant-loop l = waiting l.lists.items None ≡ constructing (code_of l.body)
