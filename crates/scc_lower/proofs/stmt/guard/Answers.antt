use Rattle.std.proofs.Common.{length}
use Rattle.std.proofs.lemmas.Result.{on_ok_weaker}
use Rattle.scc_lower.proofs.Leaves.{guards-some}
use Rattle.scc_lower.proofs.stmt.guard.Goals as goal

pub returns : goal.returns
returns c =
    on_ok_weaker c.push.result
    (λ put. guards-some (length c.args.cells.cells.now) c.args.cx.now.exit c.in_ok-test.test c.args.new c.new.result c.args.out.now c.push.new.self c.in_ok-test.ensures c.new.ensures.empty put)
    c.push.ensures.ok
