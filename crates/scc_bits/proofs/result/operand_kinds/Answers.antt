use Rattle.std.specs.Prelude.{◌≡◌, option_map, option_and_then}
use Rattle.std.proofs.Common.{sym, ap, ◌∙◌}
use Rattle.scc_bits.specs.declared.operands.Operands.{Operands}
use Rattle.scc_bits.specs.Placed.{placed_of, operands_of}
use Rattle.scc_bits.proofs.Lowered.{answer_kept}
use Rattle.scc_bits.proofs.result.operand_kinds.Goals as goal

pub returns-clause-answer : goal.returns-clause-answer
returns-clause-answer c =
    let a = c.args.a in
    let b = c.args.b in
    let is : c.placed.result ≡ operands_of c.args.op a b = c.placed.ensures ∙ ap (option_and_then (λ r. placed_of r a b)) (sym c.in_ok-rule.was ∙ c.rule_at.ensures) in
    ap (option_map (λ (p : Operands). p.answer)) is ∙ answer_kept c.args.op a b
