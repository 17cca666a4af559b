use Rattle.std.specs.Prelude.{pos, false}
use Rattle.std.proofs.Common.{sym, ap, subst, ◌∙◌}
use Rattle.scc_bits_kinds.specs.Counts.{wide}
use Rattle.scc_bits_kinds.specs.Constants.{CountsBy}
use Rattle.scc_bits_kinds.proofs.Fewest.{positive}
use Rattle.scc_bits_kinds.proofs.constant.counted_positive.Goals as goal

pub returns : goal.returns
returns c =
    let is = c.wide.ensures ∙ ap (λ n. wide n false) c.max.ensures in
    subst (CountsBy (pos c.args.a)) (sym is) (positive c.args.a c.digits.result c.ranges.a.fits c.digits.ensures.small c.digits.ensures.hold c.digits.ensures.least)
