use Rattle.std.proofs.Common.{◌<◌, arith}
use Rattle.scc_lower_expressions.proofs.Keeping.{reach-test}
use Rattle.scc_lower_expressions.proofs.index.Index.can_reach.Goals as goal

pub returns-then-self-ge32 : goal.returns-then-self-ge32
returns-then-self-ge32 c = let few : c.args.n < 4294967296 = omega arith in reach-test c.args.self.width c.args.n c.if-self-ge32.true few
