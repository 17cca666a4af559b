use Rattle.std.proofs.Common.{◌<◌, refl, subst}
use Rattle.scc_elab_grown.proofs.Running.{runs_stay, items_given}
use Rattle.scc_elab_grown.proofs.records.sense_at.Goals as goal

pub returns-in-Some-clause-runs : goal.returns-in-Some-clause-runs
returns-in-Some-clause-runs c = runs_stay c.args.list.now.items c.args.number c.in-Some.process.now (record { object = c.in-Some.process.now.object; function = c.in-Some.process.now.function; place = c.in-Some.process.now.place; is_thread = c.in-Some.process.now.is_thread; items = c.put_all.new.list; resets = c.in-Some.process.now.resets }) (subst (λ n. c.args.number < n) c.args.list.now.ok.0 (c.in-Some.ensures.variant.0 refl)) c.in-Some.ensures.value refl refl

pub returns-in-Some-clause-given : goal.returns-in-Some-clause-given
returns-in-Some-clause-given c = items_given c.put_all.result c.args.list.now.items c.args.number c.in-Some.process.now (record { object = c.in-Some.process.now.object; function = c.in-Some.process.now.function; place = c.in-Some.process.now.place; is_thread = c.in-Some.process.now.is_thread; items = c.put_all.new.list; resets = c.in-Some.process.now.resets }) c.args.items.now (subst (λ n. c.args.number < n) c.args.list.now.ok.0 (c.in-Some.ensures.variant.0 refl)) c.in-Some.ensures.value refl refl refl refl refl c.put_all.ensures
