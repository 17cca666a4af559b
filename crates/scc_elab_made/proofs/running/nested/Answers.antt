use Rattle.scc_elab_spec.specs.Program.{End}
use Rattle.scc_elab_works.specs.Runs.{now_of}
use Rattle.scc_elab_works.specs.Works.{at_in, chosen_of, outcome, run_at, Steps, tested_in, through}
use Rattle.scc_elab_spec.specs.Construct.{Fell}
use Rattle.scc_elab_grown.specs.Grown.{grown_of}
use Rattle.scc_plain_view.specs.Codes.{code_of, stmt_code}
use Rattle.scc_plain_view.specs.Plains.{plain_of}
use Rattle.scc_plain_view.specs.Terms.{term_of}
use Rattle.scc_elab_made.proofs.Stepping.{steps_to, if_goes, loop_goes}
use Rattle.scc_elab_made.proofs.running.nested.Goals as goal

pub returns-in-If : goal.returns-in-If
returns-in-If c = steps_to (plain_of c.args.p.now) c.branch-p.result c.branch-p.new.works.items (now_of c.args.m.now)
    (outcome (plain_of c.args.p.now) c.args.works.now.items (tested_in (plain_of c.args.p.now) (at_in c.args.at.now) (term_of c.in-If.test) (code_of c.as_slice.result.now) (code_of c.as_slice-in-If.result.now) (now_of c.args.m.now)))
    (outcome (plain_of c.args.p.now) c.args.works.now.items (run_at (plain_of c.args.p.now) (at_in c.args.at.now) (stmt_code c.args.s.now End) (now_of c.args.m.now)))
    (if_goes (plain_of c.args.p.now) (at_in c.args.at.now) c.args.s.now c.in-If.test c.in-If.yes c.in-If.no c.as_slice.result.now c.as_slice-in-If.result.now c.args.works.now.items (now_of c.args.m.now) c.in-If.is c.as_slice.ensures.elements c.as_slice-in-If.ensures.elements)
    c.branch-p.ensures

pub returns-in_ok-begin_loop-in-Loop : goal.returns-in_ok-begin_loop-in-Loop
returns-in_ok-begin_loop-in-Loop c = loop_goes (plain_of c.args.p.now) (at_in c.args.at.now) c.args.s.now c.in-Loop.count c.in-Loop.body c.as_slice-in-Loop.result.now c.args.works.now.items c.begin_loop.new.works.items (now_of c.args.m.now) c.in-Loop.is c.as_slice-in-Loop.ensures.elements c.in_ok-begin_loop-in-Loop.ensures
