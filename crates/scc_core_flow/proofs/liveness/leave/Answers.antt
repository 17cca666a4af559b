use Rattle.std.proofs.Common.{◌≡◌, ◌+◌, length, arith}
use Rattle.scc_core_flow.proofs.Alive.{left_at}
use Rattle.scc_core_flow.proofs.liveness.leave.Goals as goal

pub returns-in-Some-get_mut : goal.returns-in-Some-get_mut
returns-in-Some-get_mut c =
    let e : c.in-Some.at + (c.args.n + 1) ≡ length c.args.left.now.items = omega arith in
    left_at c.args.left.now.items c.in-Some.at c.args.n e
