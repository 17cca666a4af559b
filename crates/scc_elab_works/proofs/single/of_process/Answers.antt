use Rattle.std.proofs.Common.{◌≡◌, subst, sym, option_map}
use Rattle.scc_elab_works.specs.Runs.{Ends, making_there, now_of, site_there}
use Rattle.scc_elab_spec.specs.Construct.{ran_in}
use Rattle.scc_elab_spec.specs.Program.{Code, End, Process, Reset}
use Rattle.scc_plain_view.specs.Codes.{sense_of, stmt_code}
use Rattle.scc_plain_view.specs.Terms.{left_of, term_of}
use Rattle.scc_elab_works.proofs.Nodes.{process_is, reset_is}
use Rattle.scc_elab_works.proofs.single.of_process.Goals as goal

pub returns-in-Process : goal.returns-in-Process
returns-in-Process c =
    let e : stmt_code c.args.s.now End ≡ Process c.args.s.now.place c.in-Process.thread c.in-Process.function (option_map sense_of c.in-Process.edge) End = process_is c.args.s.now c.in-Process.thread c.in-Process.function c.in-Process.edge End c.in-Process.is in
    subst (λ (z : Code). Ends c.process.result (now_of c.process.new.m) (ran_in c.args.turns (making_there c.args.f.now c.args.levels) (site_there c.args.f.now) z (now_of c.args.m.now))) (sym e) c.process.ensures

pub returns-in-Reset : goal.returns-in-Reset
returns-in-Reset c =
    let e : stmt_code c.args.s.now End ≡ Reset c.args.s.now.place (option_map left_of c.in-Reset.signal) (term_of c.in-Reset.level) c.in-Reset.asynchronous End = reset_is c.args.s.now c.in-Reset.signal c.in-Reset.level c.in-Reset.asynchronous End c.in-Reset.is in
    subst (λ (z : Code). Ends c.reset_last.result (now_of c.reset_last.new.m) (ran_in c.args.turns (making_there c.args.f.now c.args.levels) (site_there c.args.f.now) z (now_of c.args.m.now))) (sym e) c.reset_last.ensures
