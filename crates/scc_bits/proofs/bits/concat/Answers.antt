use Rattle.std.proofs.Common.{arith}
use Rattle.scc_bits.proofs.Parts.{shifted, joined_word, joined_fits, wider}
use Rattle.scc_bits.proofs.bits.concat.Goals as goal

pub overflow_add-result : goal.overflow_add-result
overflow_add-result c =
    let e = shifted c.args.low c.args.x.bits c.requires.low c.requires.upper in
    omega (arith, joined_word c.args.low c.args.x.bits c.args.y.bits c.requires.low c.requires.lower c.requires.upper)

pub returns-then-low-eq128-clause-fits : goal.returns-then-low-eq128-clause-fits
returns-then-low-eq128-clause-fits c = λ w p. wider w c.args.low c.args.y.bits c.requires.lower

pub returns-else-low-eq128-clause-bits : goal.returns-else-low-eq128-clause-bits
returns-else-low-eq128-clause-bits c = omega (arith, shifted c.args.low c.args.x.bits c.requires.low c.requires.upper)

pub returns-else-low-eq128-clause-fits : goal.returns-else-low-eq128-clause-fits
returns-else-low-eq128-clause-fits c = λ w p. omega (arith, shifted c.args.low c.args.x.bits c.requires.low c.requires.upper, joined_fits w c.args.low c.args.x.bits c.args.y.bits c.requires.lower p)
