use Rattle.std.proofs.Common.{refl, ◌∙◌, ◌<◌, ◌^◌, ◌-◌, ◌+◌}
use Rattle.scc_elab_worth.proofs.Kept.{range_put}
use Rattle.scc_elab_worth.proofs.picks.with_range.Goals as goal

pub returns-in-Some-replaced : goal.returns-in-Some-replaced
returns-in-Some-replaced c =
    let f : c.args.bits < 2 ^ (c.args.h - c.args.l + 1) = c.if-not-fits.ensures refl in
    c.word.ensures.word ∙ range_put c.in-Some-replaced.whole c.in-Some.number c.args.h c.args.l c.args.old c.args.bits f c.in-Some.ensures.some.1 c.in-Some-replaced.ensures.word
