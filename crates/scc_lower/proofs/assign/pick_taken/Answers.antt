use Rattle.scc_lower_expressions.specs.Becoming.{given_of}
use Rattle.scc_lower_expressions.proofs.Shapes.{out-bit, out-range}
use Rattle.scc_lower.proofs.Taking.{index-taken, range-taken}
use Rattle.scc_lower.proofs.assign.pick_taken.Goals as goal

pub returns-in-Range : goal.returns-in-Range
returns-in-Range c = range-taken (given_of c.args.cells) c.args.pick.now c.args.all _ c.in-Range.h c.in-Range.l (out-range _ _ _ _ c.in-Range.is)

pub returns-in-Bit : goal.returns-in-Bit
returns-in-Bit c = index-taken (given_of c.args.cells) c.args.pick.now c.args.all _ c.in-Bit.at c.bit_taken.result (out-bit _ _ _ c.in-Bit.is) c.bit_taken.ensures
