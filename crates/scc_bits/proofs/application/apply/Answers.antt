use Rattle.std.specs.Prelude.{◌≤◌, ◌<◌, ◌^◌, IfSome, Option}
use Rattle.std.proofs.Common.{sym, ◌∙◌, subst}
use Rattle.scc_bits_kinds.specs.declared.kind.Kind.{Kind}
use Rattle.scc_bits_kinds.specs.Kinds.{Fits}
use Rattle.scc_bits.proofs.Validity.{width_valid}
use Rattle.scc_bits.proofs.Lowered.{kinds, answer_is}
use Rattle.scc_bits.proofs.Applied.{operands_are, divisor_stands, applied_stands}
use Rattle.scc_bits.proofs.application.apply.Goals as goal

pub calculate-requires-clause-answer : goal.calculate-requires-clause-answer
calculate-requires-clause-answer c =
    let o = operands_are c.args.op c.args.a c.args.b c.unwrap-rule.result (sym c.rule_at.ensures ∙ c.unwrap-rule.ensures) c.requires.row in
    let s = c.take-taken.ensures o.0 o.1 in
    subst (λ w. (1 ≤ w) × (w ≤ 128)) (sym s.answer) (width_valid o.0.answer (kinds c.args.op c.args.a c.args.b o.0 c.requires.kinds.0 c.requires.kinds.1 o.2).2)

pub calculate-requires-clause-divisor : goal.calculate-requires-clause-divisor
calculate-requires-clause-divisor c =
    let o = operands_are c.args.op c.args.a c.args.b c.unwrap-rule.result (sym c.rule_at.ensures ∙ c.unwrap-rule.ensures) c.requires.row in
    divisor_stands c.args.op c.args.a c.args.x.bits c.args.b c.args.y.bits o.0 c.take-taken.result c.requires.kinds.0 c.requires.kinds.1 c.requires.right o.2 (c.take-taken.ensures o.0 o.1) c.requires.divisor

pub returns-clause-word : goal.returns-clause-word
returns-clause-word c =
    let o = operands_are c.args.op c.args.a c.args.b c.unwrap-rule.result (sym c.rule_at.ensures ∙ c.unwrap-rule.ensures) c.requires.row in
    applied_stands c.args.op c.args.a c.args.x.bits c.args.b c.args.y.bits o.0 c.take-taken.result c.calculate.result c.requires.kinds.0 c.requires.kinds.1 c.requires.left c.requires.right c.requires.narrow o.2 (c.take-taken.ensures o.0 o.1) c.calculate.ensures.word

pub returns-clause-fits : goal.returns-clause-fits
returns-clause-fits c =
    let o = operands_are c.args.op c.args.a c.args.b c.unwrap-rule.result (sym c.rule_at.ensures ∙ c.unwrap-rule.ensures) c.requires.row in
    let s = c.take-taken.ensures o.0 o.1 in
    subst (λ (t : Option Kind). IfSome t (λ k. Fits k c.calculate.result)) (sym (answer_is c.args.op c.args.a c.args.b o.0 o.2)) (subst (λ w. c.calculate.result < 2 ^ w) s.answer c.calculate.ensures.fits)
