use Rattle.std.proofs.Common.{◌≡◌, ◌+◌, ◌∙◌, ap, set, length, arith}
use Rattle.scc_rules_walks.specs.Ways.{least}
use Rattle.scc_rules_walks.proofs.Idle.{marked_at, out_of}
use Rattle.scc_rules_walks.proofs.ways.leave.Goals as goal

pub returns-in-Some-get_mut : goal.returns-in-Some-get_mut
returns-in-Some-get_mut c =
    let e : c.in-Some.at + (c.args.n + 1) ≡ length c.args.outs.now.items = omega arith in
    let o = c.in-Some-get_mut.out.now in
    ap (λ w. set c.args.outs.now.items c.in-Some.at (out_of w o.depth)) (c.least-out.ensures ∙ ap (least o.way) c.cut.ensures)
    ∙ marked_at c.args.outs.now.items c.in-Some.at c.args.n c.args.here o o e c.in-Some-get_mut.ensures.item.1
