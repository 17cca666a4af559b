use Rattle.std.proofs.Common.{sym, ◌∙◌, arith}
use Rattle.scc_bits.proofs.Numbers.{bit_past}
use Rattle.scc_bits.proofs.value.Value.bit.Goals as goal

pub returns-else-i-lt128 : goal.returns-else-i-lt128
returns-else-i-lt128 c = grind (arith, bit_past c.self.inside.kind c.self.inside.word.bits c.args.i c.self.invariant.0 c.self.invariant.1 c.if-i-lt128.false)
