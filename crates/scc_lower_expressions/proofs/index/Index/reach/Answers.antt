use Rattle.std.proofs.Common.{◌<◌, arith}
use Rattle.scc_lower_expressions.proofs.Keeping.{reach-all}
use Rattle.scc_lower_expressions.proofs.index.Index.reach.Goals as goal

pub returns-else-self-lt32 : goal.returns-else-self-lt32
returns-else-self-lt32 c = let few : c.args.n < 4294967296 = omega arith in reach-all c.args.self.width c.args.n c.if-self-lt32.false few
