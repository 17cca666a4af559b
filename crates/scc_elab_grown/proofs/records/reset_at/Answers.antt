use Rattle.std.proofs.Common.{◌<◌, refl, subst}
use Rattle.scc_elab_grown.proofs.Running.{runs_stay, reset_given}
use Rattle.scc_elab_grown.proofs.records.reset_at.Goals as goal

pub returns-in-Some-clause-runs : goal.returns-in-Some-clause-runs
returns-in-Some-clause-runs c = runs_stay c.args.list.now.items c.args.number c.in-Some.process.now (record { object = c.in-Some.process.now.object; function = c.in-Some.process.now.function; place = c.in-Some.process.now.place; is_thread = c.in-Some.process.now.is_thread; items = c.in-Some.process.now.items; resets = c.push.new.items }) (subst (λ n. c.args.number < n) c.args.list.now.ok.0 (c.in-Some.ensures.variant.0 refl)) c.in-Some.ensures.value refl refl

pub returns-in-Some-clause-given : goal.returns-in-Some-clause-given
returns-in-Some-clause-given c = reset_given c.push.result c.args.list.now.items c.args.number c.in-Some.process.now (record { object = c.in-Some.process.now.object; function = c.in-Some.process.now.function; place = c.in-Some.process.now.place; is_thread = c.in-Some.process.now.is_thread; items = c.in-Some.process.now.items; resets = c.push.new.items }) c.args.reset (subst (λ n. c.args.number < n) c.args.list.now.ok.0 (c.in-Some.ensures.variant.0 refl)) c.in-Some.ensures.value refl refl refl refl refl c.push.ensures.ok
