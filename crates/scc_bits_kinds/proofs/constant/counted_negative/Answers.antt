use Rattle.std.specs.Prelude.{negsuc}
use Rattle.std.proofs.Common.{sym, subst}
use Rattle.scc_bits_kinds.specs.Constants.{CountsBy}
use Rattle.scc_bits_kinds.proofs.Fewest.{negative}
use Rattle.scc_bits_kinds.proofs.constant.counted_negative.Goals as goal

pub returns : goal.returns
returns c = subst (CountsBy (negsuc c.args.b)) (sym c.wide.ensures) (negative c.args.b c.digits.result c.requires c.digits.ensures.small c.digits.ensures.hold c.digits.ensures.least)
