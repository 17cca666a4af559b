use Rattle.scc_elab_grown.specs.Grown.{grown_of}
use Rattle.scc_elab_works.specs.Runs.{now_of}
use Rattle.scc_elab_works.specs.Works.{at_in, run_at, site_at}
use Rattle.scc_elab_spec.specs.Construct.{choose_of}
use Rattle.scc_elab_spec.specs.Worth.{at_now}
use Rattle.scc_plain_view.specs.Codes.{code_of}
use Rattle.scc_plain_view.specs.Plains.{plain_of}
use Rattle.scc_plain_view.specs.Terms.{term_of}
use Rattle.scc_elab_made.proofs.Stepping.{worth_stops}
use Rattle.scc_elab_made.proofs.running.branch.Goals as goal

pub returns-in-Err : goal.returns-in-Err
returns-in-Err c = worth_stops (Unit {0}) (plain_of c.args.p.now) c.in-Err.stop c.args.works.now.items (now_of c.args.m.now) (at_now (site_at (plain_of c.args.p.now) (at_in c.args.at.now)) (grown_of c.args.m.now.grown)) (term_of c.args.test.now)
    (λ x. choose_of x (run_at (plain_of c.args.p.now) (at_in c.args.at.now) (code_of c.args.yes.now)) (run_at (plain_of c.args.p.now) (at_in c.args.at.now) (code_of c.args.no.now)) (now_of c.args.m.now)) c.in-Err.ensures
