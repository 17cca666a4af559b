use Rattle.std.proofs.Common.{◌≡◌, drop}
use Rattle.scc_elab_works.specs.Runs.{now_of}
use Rattle.scc_elab_works.specs.Works.{at_in, run_at}
use Rattle.scc_plain_view.specs.Codes.{code_of}
use Rattle.scc_plain_view.specs.Plains.{plain_of}
use Rattle.scc_elab_made.proofs.running.run_simple.Given as goal

abbrev pub invariant-loop-i : goal.invariant-loop-i
invariant-loop-i l = run_at (plain_of l.p) (at_in l.at) (code_of l.list) (now_of l.initial.m) ≡ run_at (plain_of l.p) (at_in l.at) (code_of (drop l.i l.list)) (now_of l.m)
