use Rattle.std.proofs.Common.{arith, refl}
use Rattle.std.specs.Int.Count.{count_leading_zeros}
use Rattle.scc_blocks.proofs.Fewest.{fewest, none}
use Rattle.scc_blocks.proofs.thread.fewest_bits.Goals as goal

pub returns-clause-fewest : goal.returns-clause-fewest
returns-clause-fewest c some = fewest c.args.n (count_leading_zeros 32 c.args.n) c.max.result (omega arith) some refl c.max.ensures

pub returns-clause-none : goal.returns-clause-none
returns-clause-none c e = none c.args.n (count_leading_zeros 32 c.args.n) c.max.result e refl c.max.ensures
