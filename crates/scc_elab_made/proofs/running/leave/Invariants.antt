use Rattle.std.proofs.Common.{◌≡◌}
use Rattle.scc_elab_spec.specs.Construct.{Left_out}
use Rattle.scc_elab_works.specs.Runs.{now_of}
use Rattle.scc_elab_works.specs.Works.{outcome}
use Rattle.scc_plain_view.specs.Plains.{plain_of}
use Rattle.scc_elab_made.proofs.running.leave.Given as goal

abbrev pub invariant-loop : goal.invariant-loop
invariant-loop l = outcome (plain_of l.p) l.initial.works.items (Left_out l.depth (now_of l.m)) ≡ outcome (plain_of l.p) l.works.items (Left_out l.left (now_of l.m))
