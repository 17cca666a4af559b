use Rattle.std.specs.Prelude.{false}
use Rattle.std.proofs.Common.{refl, ◌∙◌, ap}
use Rattle.scc_bits_kinds.specs.declared.rule.Rule.TheVariants as rule
use Rattle.scc_bits_kinds.specs.Kinds.{is_signed}
use Rattle.scc_bits_kinds.specs.Numbers.{reading}
use Rattle.scc_bits.proofs.Standing.{finish, in_own, amount}
use Rattle.scc_bits.proofs.taken.take.Goals as goal

pub returns-in-Promoted : goal.returns-in-Promoted
returns-in-Promoted c =
    let p = c.promote.ensures in
    finish _ rule.Promoted _ _ _ _ _ _ _ c.in-Promoted.is refl refl (record {
      left = p.left;
      right = ap (reading (is_signed c.args.b) 128) p.right ∙ in_own c.args.b c.args.y.bits c.read_number.result c.requires.right c.read_number.ensures.is;
      sign = p.sign;
      answer = p.answer;
    })

pub returns-in-PromotedShift : goal.returns-in-PromotedShift
returns-in-PromotedShift c =
    let p = c.promote-in-PromotedShift.ensures in
    finish _ rule.PromotedShift _ _ _ _ _ _ _ c.in-PromotedShift.is refl refl (record {
      left = p.left;
      right = ap (reading false 128) p.right ∙ amount c.args.b c.args.y.bits c.requires.kinds.1 c.requires.right;
      sign = p.sign;
      answer = p.answer;
    })
