use Rattle.scc_elab_spec.specs.Program.{End}
use Rattle.scc_elab_works.specs.Runs.{now_of}
use Rattle.scc_elab_works.specs.Works.{at_in, chosen_of, outcome, run_at, Steps, tested_in, through}
use Rattle.scc_elab_spec.specs.Construct.{Fell}
use Rattle.scc_elab_grown.specs.Grown.{grown_of}
use Rattle.scc_plain_view.specs.Codes.{code_of, stmt_code}
use Rattle.scc_plain_view.specs.Plains.{plain_of}
use Rattle.scc_plain_view.specs.Terms.{term_of}
use Rattle.std.proofs.Common.{◌∙◌}
use Rattle.scc_elab_made.proofs.Stepping.{popped, left_by}
use Rattle.scc_elab_made.proofs.running.run.Goals as goal

pub loop-preserved : goal.loop-preserved
loop-preserved c = popped (plain_of c.args.p.now) (outcome (plain_of c.args.p.now) c.args.works.now.items (Fell (now_of c.args.m.now))) c.loop.works.items c.pop.new.self.items c.in-Some.work (now_of c.loop.m) c.loop.invariant c.in-Some.ensures.items ∙ c.in_default-step.ensures

pub returns-in-Err : goal.returns-in-Err
returns-in-Err c = left_by (Unit {0}) (plain_of c.args.p.now) c.in-Err.stop c.step.new.works.items (now_of c.step.new.m) (grown_of c.step.new.m.grown) (outcome (plain_of c.args.p.now) c.args.works.now.items (Fell (now_of c.args.m.now)))
    (outcome (plain_of c.args.p.now) c.pop.new.self.items (through (plain_of c.args.p.now) c.in-Some.work (Fell (now_of c.loop.m))))
    (popped (plain_of c.args.p.now) (outcome (plain_of c.args.p.now) c.args.works.now.items (Fell (now_of c.args.m.now))) c.loop.works.items c.pop.new.self.items c.in-Some.work (now_of c.loop.m) c.loop.invariant c.in-Some.ensures.items) c.in-Err.ensures
