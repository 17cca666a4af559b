use Rattle.std.proofs.Common.{arith}
use Rattle.scc_base.proofs.Written.{wrote_more}
use Rattle.scc_base.proofs.outside.put_all.Goals as goal

pub loop-rest-preserved : goal.loop-rest-preserved
loop-rest-preserved g c = record {
  wrote = wrote_more _ _ _ _ _ _ c.loop-rest.invariant.wrote c.in_ok-taken.ensures.written;
  fewer = omega arith;
}
