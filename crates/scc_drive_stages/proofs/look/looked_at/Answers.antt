use Rattle.std.proofs.Common.{subst}
use Rattle.scc_drive_stages.specs.Emitted.{IsEmitted}
use Rattle.scc_drive_stages.proofs.look.looked_at.Goals as goal

pub returns-then-is_read_back : goal.returns-then-is_read_back
returns-then-is_read_back c = subst (IsEmitted c.args.many c.args.top.now) c.bytes.ensures.bytes (c.is_read_back.ensures c.if-is_read_back.true)
