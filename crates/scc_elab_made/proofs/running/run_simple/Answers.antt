use Rattle.std.proofs.Common.{sym}
use Rattle.scc_elab_works.specs.Runs.{now_of}
use Rattle.scc_elab_works.specs.Works.{at_in}
use Rattle.scc_plain_view.specs.Plains.{plain_of}
use Rattle.scc_elab_made.proofs.Going.{goes_on, goes_stops, goes_all, goes_here}
use Rattle.scc_elab_made.proofs.running.run_simple.Goals as goal

pub loop-i-preserved : goal.loop-i-preserved
loop-i-preserved c = goes_on (plain_of c.args.p.now) (at_in c.args.at.now) c.args.list.now c.loop-i.i c.in-Some.s.now (sym c.in-Some.ensures) (now_of c.args.m.now) (now_of c.loop-i.m) (now_of c.simple_at.new.m) c.loop-i.invariant c.in_default-simple_at.ensures

pub returns-in-Err : goal.returns-in-Err
returns-in-Err c = goes_stops (plain_of c.args.p.now) (at_in c.args.at.now) c.args.list.now c.loop-i.i c.in-Some.s.now (sym c.in-Some.ensures) (now_of c.args.m.now) (now_of c.loop-i.m) (now_of c.simple_at.new.m) c.loop-i.invariant c.in-Err.stop c.in-Err.ensures
