use Rattle.std.proofs.Common.{ap, sym, ◌∙◌}
use Rattle.scc_elab_works.specs.Runs.{now_of}
use Rattle.scc_elab_works.specs.Works.{at_in, outcome, run_at}
use Rattle.scc_plain_view.specs.Codes.{code_of}
use Rattle.scc_plain_view.specs.Plains.{plain_of}
use Rattle.scc_elab_made.proofs.Going.{steps_stop}
use Rattle.scc_elab_made.proofs.Stepping.{steps_to}
use Rattle.scc_elab_made.proofs.running.next_statement.Goals as goal

pub returns-in-Ok : goal.returns-in-Ok
returns-in-Ok c = steps_to (plain_of c.args.p.now) c.put_first.result c.put_first.new.works.items (now_of c.put_first.new.m)
    (outcome (plain_of c.args.p.now) c.args.works.now.items (run_at (plain_of c.args.p.now) (at_in c.args.r.now.at) (code_of c.from.result.now) (now_of c.run_simple.new.m)))
    (outcome (plain_of c.args.p.now) c.args.works.now.items (run_at (plain_of c.args.p.now) (at_in c.args.r.now.at) (code_of c.args.r.now.list.now) (now_of c.args.m.now)))
    (ap (outcome (plain_of c.args.p.now) c.args.works.now.items) (c.in-Ok.ensures.1 ∙ ap (λ z. run_at (plain_of c.args.p.now) (at_in c.args.r.now.at) (code_of z) (now_of c.run_simple.new.m)) (sym c.from.ensures)))
    c.put_first.ensures

pub returns-in-Err : goal.returns-in-Err
returns-in-Err c = steps_stop (Unit {0}) (plain_of c.args.p.now) (at_in c.args.r.now.at) c.args.r.now.list.now (now_of c.args.m.now) (now_of c.run_simple.new.m) (now_of c.run_simple.new.m) c.in-Err.stop c.args.works.now.items c.in-Err.ensures
