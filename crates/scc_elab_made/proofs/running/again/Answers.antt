use Rattle.std.proofs.Common.{refl, ◌-◌}
use Rattle.scc_base.specs.declared.code.Code.TheVariants as reason
use Rattle.scc_core_spec.specs.First.{refused}
use Rattle.scc_elab_works.specs.Runs.{now_of}
use Rattle.scc_elab_works.specs.Works.{outcome, turns_of}
use Rattle.scc_plain_view.specs.Plains.{plain_of}
use Rattle.scc_elab_made.proofs.Stepping.{again_none, again_goes, steps_refused, one_less}
use Rattle.scc_elab_made.proofs.running.again.Goals as goal

pub returns-then-l-eq0 : goal.returns-then-l-eq0
returns-then-l-eq0 c = steps_refused (Unit {0}) (plain_of c.args.p.now) c.refused.result (refused reason.ConstructionTurns c.args.l.now.place) c.args.works.now.items (now_of c.args.m.now) (outcome (plain_of c.args.p.now) c.args.works.now.items (turns_of (plain_of c.args.p.now) c.args.l.now (now_of c.args.m.now)))
    c.refused.ensures (again_none (plain_of c.args.p.now) c.args.l.now c.args.works.now.items (now_of c.args.m.now) c.if-l-eq0.true)

pub returns : goal.returns
returns c = again_goes (plain_of c.args.p.now) c.args.l.now (record { at = c.in_ok-at.at; left = c.args.l.now.left - 1; place = c.args.l.now.place; test = c.args.l.now.test; body = c.args.l.now.body }) c.args.works.now.items c.push.new.items.items c.put_run.new.works.items
    (now_of c.args.m.now) (c.args.l.now.left - 1) (one_less c.args.l.now.left c.if-l-eq0.false) refl c.in_ok-at.ensures refl refl refl c.in_ok-push.ensures.ok c.in_ok-put_run.ensures
