use Rattle.std.proofs.Common.{◌≡◌, drop}
use Rattle.scc_elab_spec.specs.Inits.{owner}
use Rattle.scc_plain_view.specs.Codes.{code_of}
use Rattle.scc_elab_inits.proofs.inits.owner_of.Given as goal

abbrev pub invariant-loop-i : goal.invariant-loop-i
invariant-loop-i l = owner (code_of (drop l.i l.list)) ≡ owner (code_of l.list)
