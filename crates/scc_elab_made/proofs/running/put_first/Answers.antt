use Rattle.scc_elab_spec.specs.Program.{End}
use Rattle.scc_elab_works.specs.Runs.{now_of}
use Rattle.scc_elab_works.specs.Works.{at_in, outcome, run_at}
use Rattle.scc_plain_view.specs.Codes.{code_of, stmt_code}
use Rattle.scc_plain_view.specs.Plains.{plain_of}
use Rattle.std.proofs.Common.{length, take, drop, ◌-◌}
use Rattle.scc_elab_works.proofs.Rows.{slice_is}
use Rattle.scc_elab_made.proofs.Stepping.{steps_to, first_goes}
use Rattle.scc_elab_made.proofs.running.put_first.Goals as goal

pub returns-in_ok-put_run-in-len1-up : goal.returns-in_ok-put_run-in-len1-up
returns-in_ok-put_run-in-len1-up c = steps_to (plain_of c.args.p.now) c.statement.result c.statement.new.works.items (now_of c.statement.new.m)
    (outcome (plain_of c.args.p.now) c.put_run.new.works.items (run_at (plain_of c.args.p.now) (at_in c.args.at.now) (stmt_code c.s-item.result End) (now_of c.args.m.now)))
    (outcome (plain_of c.args.p.now) c.args.works.now.items (run_at (plain_of c.args.p.now) (at_in c.args.at.now) (code_of c.args.list.now) (now_of c.args.m.now)))
    (first_goes (plain_of c.args.p.now) (at_in c.args.at.now) c.s-item.result (take (length c.args.list.now - 1) (drop 1 c.args.list.now)) c.args.list.now c.args.works.now.items c.put_run.new.works.items (now_of c.args.m.now)
    (slice_is c.args.list.now c.s-item.result c.in-len1-up.len_at_least c.s-item.is) c.in_ok-put_run-in-len1-up.ensures)
    c.statement.ensures
