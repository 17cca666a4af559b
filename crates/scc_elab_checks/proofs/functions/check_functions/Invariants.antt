use Rattle.std.proofs.Common.{◌≡◌, drop}
use Rattle.scc_core_spec.specs.First.{first_numbered}
use Rattle.scc_elab_spec.specs.After.{misplaced}
use Rattle.scc_plain_view.specs.Plains.{plain_of}
use Rattle.scc_elab_checks.specs.Open.{misplaced_in}
use Rattle.scc_elab_checks.proofs.functions.check_functions.Given as goal

abbrev pub invariant-loop-number : goal.invariant-loop-number
invariant-loop-number l = misplaced (plain_of l.p) ≡ first_numbered (misplaced_in (plain_of l.p)) l.number (drop l.number (plain_of l.p).functions)
