use Rattle.scc_elab_spec.specs.Construct.{Left_out}
use Rattle.scc_elab_works.specs.Runs.{now_of}
use Rattle.scc_elab_works.specs.Works.{outcome}
use Rattle.scc_plain_view.specs.Plains.{plain_of}
use Rattle.scc_elab_made.proofs.Stepping.{leave_left, leave_shut, leave_on, leave_stays}
use Rattle.scc_elab_made.proofs.running.leave.Goals.{in-Left, in-Shut+else-left-eq0}
use Rattle.scc_elab_made.proofs.running.leave.Goals as goal

pub returns-then-left-eq0 : goal.returns-then-left-eq0
returns-then-left-eq0 c = leave_shut (plain_of c.args.p.now) (outcome (plain_of c.args.p.now) c.args.works.now.items (Left_out c.args.depth (now_of c.args.m.now))) c.loop.works.items c.pop.new.self.items c.in-Some.work c.loop.left (now_of c.args.m.now) c.kind_of.result c.loop.invariant c.in-Some.ensures.items c.kind_of.ensures c.in-Shut.is c.if-left-eq0.true

pub returns-in-Stays : goal.returns-in-Stays
returns-in-Stays c = leave_stays (plain_of c.args.p.now) (outcome (plain_of c.args.p.now) c.args.works.now.items (Left_out c.args.depth (now_of c.args.m.now))) c.loop.works.items c.pop.new.self.items c.in-Some.work c.loop.left (now_of c.args.m.now) c.kind_of.result c.loop.invariant c.in-Some.ensures.items c.kind_of.ensures c.push.new.items.items c.in-Stays.is c.in_ok-push-in-Stays.ensures.ok

pub loop-preserved : goal.loop-preserved
loop-preserved c = elim c.match-kind_of.branch [
  | in-Left w ↦ leave_left (plain_of c.args.p.now) (outcome (plain_of c.args.p.now) c.args.works.now.items (Left_out c.args.depth (now_of c.args.m.now))) c.loop.works.items c.pop.new.self.items c.in-Some.work c.loop.left (now_of c.args.m.now) c.kind_of.result c.loop.invariant c.in-Some.ensures.items c.kind_of.ensures c.match-kind_of.left w.in-Left.is w.left-is
  | in-Shut+else-left-eq0 w ↦ leave_on (plain_of c.args.p.now) (outcome (plain_of c.args.p.now) c.args.works.now.items (Left_out c.args.depth (now_of c.args.m.now))) c.loop.works.items c.pop.new.self.items c.in-Some.work c.loop.left (now_of c.args.m.now) c.kind_of.result c.loop.invariant c.in-Some.ensures.items c.kind_of.ensures c.match-kind_of.left w.in-Shut.is w.if-left-eq0.false w.left-is
]
