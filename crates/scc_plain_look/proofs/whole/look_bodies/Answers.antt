use Rattle.std.proofs.Common.{rules, ◌≡◌, true}
use Rattle.scc_plain_look.specs.Whole.{is_whole_body}
use Rattle.scc_plain_look.proofs.Fronts.{next_all}
use Rattle.scc_plain_look.proofs.whole.look_bodies.Goals as goal

pub loop-f-preserved : goal.loop-f-preserved
loop-f-preserved c =
    let t : is_whole_body c.args.p.now c.f-item.result ≡ true = search rules in
    next_all (is_whole_body c.args.p.now) c.args.list.now c.loop-f.f-index c.f-item.result c.loop-f-test.true c.f-item.is t c.loop-f.invariant
