use Rattle.std.proofs.Common.{sym, subst}
use Rattle.std.specs.Prelude.{Err}
use Rattle.scc_svread_grammar.specs.Levels.{deep}
use Rattle.scc_svread_written.specs.Written.{raw_of}
use Rattle.scc_svread.specs.Read.{Answered}
use Rattle.scc_svread.proofs.Linked.{answered_halt, judged_back, judged_read}
use Rattle.scc_svread.proofs.reading.read_one.Goals as goal

pub returns-in-Ok-clause-read : goal.returns-in-Ok-clause-read
returns-in-Ok-clause-read c = judged_read c.args.many c.args.bytes.now c.in-Ok.raw c.in-Ok.ensures.only c.in-Ok.ensures.read.0 c.judged.result c.judged.ensures.right

pub returns-in-Ok-clause-back : goal.returns-in-Ok-clause-back
returns-in-Ok-clause-back c = judged_back c.args.many c.args.bytes.now c.in-Ok.raw c.in-Ok.ensures.only c.judged.result c.judged.ensures.right c.judged.ensures.faulty

pub returns-in-Err-clause-back : goal.returns-in-Err-clause-back
returns-in-Err-clause-back c m s d = subst (λ e. Answered (deep 8192 d) c.args.bytes.now m (Err e)) (sym c.stop_at.ensures) (answered_halt c.args.many c.args.bytes.now m (deep 8192 d) c.in-Err.h (c.in-Err.ensures.only (raw_of m) d))
