use Rattle.std.proofs.Common.{ap, ◌∙◌}
use Rattle.std.proofs.lemmas.Result.{on_ok_weaker}
use Rattle.scc_unroll_laws.specs.Writing.{set_before}
use Rattle.scc_unroll_laws.proofs.Writing.{set_one}
use Rattle.scc_unroll_asked.proofs.Made.{turn_items}
use Rattle.scc_unroll.proofs.made.push_turn.Goals as goal

pub returns-clause-code : goal.returns-clause-code
returns-clause-code c = λ itself whole.
    on_ok_weaker c.push-2.result
    (λ p r. set_one c.push.new.self c.push-2.new.self c.in_ok-step.step r p ∙ ap (set_before c.push.new.self) (c.in_ok-step.ensures.code itself whole r) ∙ set_one c.args.out.now c.push.new.self c.args.block _ c.in_ok-push.ensures.ok)
    c.push-2.ensures.ok

pub returns-clause-items : goal.returns-clause-items
returns-clause-items c =
    on_ok_weaker c.push-2.result
    (λ p. turn_items c.args.out.now c.push.new.self c.push-2.new.self c.args.block c.in_ok-step.step _ c.in_ok-push.ensures.ok p c.in_ok-step.ensures.items)
    c.push-2.ensures.ok
