use Rattle.std.proofs.Common.{arith}
use Rattle.scc_trace.proofs.Cuts.{first_bound}
use Rattle.scc_trace.proofs.span.Span.split.Goals as goal

pub split_at-requires : goal.split_at-requires
split_at-requires c = omega (arith, c.first_len-n.ensures, first_bound c.args.separator c.args.self.bytes.now)
