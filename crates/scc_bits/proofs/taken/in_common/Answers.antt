use Rattle.std.proofs.Common.{sym, subst}
use Rattle.scc_bits.specs.declared.taken.Taken.{Taken}
use Rattle.scc_bits_kinds.specs.Counts.{common_of}
use Rattle.scc_bits.specs.Standing.{Stands}
use Rattle.scc_bits.proofs.Standing.{common_width, common_stands}
use Rattle.scc_bits.proofs.taken.in_common.Goals as goal

pub convert-requires : goal.convert-requires
convert-requires c = common_width c.args.a c.args.b c.common_form-to.result (c.common_form-to.ensures c.args.a c.args.b c.promote_number-left.ensures.form c.promote_number-right.ensures.form)

pub convert-requires-2 : goal.convert-requires-2
convert-requires-2 c = common_width c.args.a c.args.b c.common_form-to.result (c.common_form-to.ensures c.args.a c.args.b c.promote_number-left.ensures.form c.promote_number-right.ensures.form)

pub returns : goal.returns
returns c =
    let a = c.args.a in
    let b = c.args.b in
    let to = c.common_form-to.ensures a b c.promote_number-left.ensures.form c.promote_number-right.ensures.form in
    let stands = common_stands a b c.args.x.bits c.args.y.bits c.promote_number-left.result.number c.promote_number-right.result.number c.common_form-to.result c.convert.result c.convert-2.result c.requires.kinds c.requires.left c.requires.right c.requires.small c.promote_number-left.ensures.number c.promote_number-right.ensures.number to c.convert.ensures.signed c.convert.ensures.unsigned c.convert-2.ensures.signed c.convert-2.ensures.unsigned in
    subst (λ (t : Taken). Stands (record { left = common_of a b; right = common_of a b; answer = common_of a b }) a c.args.x.bits b c.args.y.bits t) (sym c.in_bits.ensures) stands
