use Rattle.std.proofs.Common.{◌≡◌}
use Rattle.scc_elab_spec.specs.Construct.{Fell}
use Rattle.scc_elab_works.specs.Runs.{now_of}
use Rattle.scc_elab_works.specs.Works.{outcome}
use Rattle.scc_plain_view.specs.Plains.{plain_of}
use Rattle.scc_elab_made.proofs.running.run.Given as goal

abbrev pub invariant-loop : goal.invariant-loop
invariant-loop l = outcome (plain_of l.p) l.initial.works.items (Fell (now_of l.initial.m)) ≡ outcome (plain_of l.p) l.works.items (Fell (now_of l.m))
