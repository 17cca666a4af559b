use Rattle.std.proofs.Common.{refl, nat_le}
use Rattle.scc_base.specs.declared.code.Code.TheVariants as reason
use Rattle.scc_core_spec.specs.First.{refused}
use Rattle.scc_elab_spec.specs.Grown.{with_turn}
use Rattle.scc_elab_grown.specs.Grown.{grown_of}
use Rattle.scc_elab_works.specs.Runs.{now_of}
use Rattle.scc_elab_works.specs.Works.{outcome, turn_of}
use Rattle.scc_plain_view.specs.Plains.{plain_of}
use Rattle.scc_elab_made.proofs.Stepping.{turn_none, turn_goes, steps_refused, may_not, may_so, turned_now}
use Rattle.scc_elab_made.proofs.running.turn.Goals as goal

pub returns-then-not-turn : goal.returns-then-not-turn
returns-then-not-turn c = steps_refused (Unit {0}) (plain_of c.args.p.now) c.refused.result (refused reason.ConstructionTurns c.args.l.now.place) c.args.works.now.items (record { grown = grown_of c.turn.new.self; last = c.args.m.now.last }) (outcome (plain_of c.args.p.now) c.args.works.now.items (turn_of (plain_of c.args.p.now) c.args.l.now (now_of c.args.m.now)))
    c.refused.ensures (turn_none (plain_of c.args.p.now) c.args.l.now c.args.works.now.items (now_of c.args.m.now) (may_not c.turn.result (nat_le 65536 (grown_of c.args.m.now.grown).turns) c.turn.ensures.may c.if-not-turn.true))

pub returns : goal.returns
returns c = let e = may_so c.turn.result (nat_le 65536 (grown_of c.args.m.now.grown).turns) c.turn.ensures.may c.if-not-turn.false in
    turn_goes (plain_of c.args.p.now) c.args.l.now (record { at = c.in_ok-at.at; left = c.args.l.now.left; place = c.args.l.now.place; test = c.args.l.now.test; body = c.args.l.now.body }) c.args.works.now.items c.push.new.items.items c.put_run.new.works.items
    (now_of c.args.m.now) (record { grown = grown_of c.turn.new.self; last = c.args.m.now.last }) e
    (turned_now (nat_le 65536 (grown_of c.args.m.now.grown).turns) (grown_of c.args.m.now.grown) (with_turn (grown_of c.args.m.now.grown)) (grown_of c.turn.new.self) c.args.m.now.last e c.turn.ensures.turned)
    refl c.in_ok-at.ensures refl refl refl c.in_ok-push.ensures.ok c.in_ok-put_run.ensures
