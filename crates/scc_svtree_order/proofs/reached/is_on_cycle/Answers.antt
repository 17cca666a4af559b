use Rattle.std.proofs.Common.{◌≡◌, ◌∙◌, arith, vec_len}
use Rattle.scc_svtree_order.proofs.Searching.{search_first, search_next, search_lighter, search_done}
use Rattle.scc_svtree_order.proofs.reached.is_on_cycle.Goals as goal

pub loop-j-init : goal.loop-j-init
loop-j-init c = search_first c.args.g.now c.args.k _ c.in_ok-seen.seen.items c.in_ok-stack.stack.items c.len.ensures.length (c.in_ok-seen.ensures.items_if_clones_equal (λ x y. y)) (c.in_ok-stack.ensures.items ∙ c.row.ensures.row)

pub loop-j-smaller : goal.loop-j-smaller
loop-j-smaller c = search_lighter c.args.g.now c.in-Some.j c.loop-j.seen.items c.see.new.seen.items c.loop-j.stack.items _ c.see.new.stack.items c.loop-j.invariant.same c.in-Some.ensures.items c.in_ok-see.ensures.seen c.in_ok-see.ensures.stack

pub loop-j-preserved : goal.loop-j-preserved
loop-j-preserved c = search_next c.args.g.now c.args.k c.in-Some.j c.loop-j.seen.items c.see.new.seen.items c.loop-j.stack.items _ c.see.new.stack.items c.loop-j.invariant c.in-Some.ensures.items c.in_ok-see.ensures.seen c.in_ok-see.ensures.stack

pub returns : goal.returns
returns c = search_done c.args.g.now c.args.k c.loop-j.seen.items c.loop-j.stack.items c.index.result.now c.requires c.loop-j.invariant (let h : vec_len c.loop-j.stack ≡ 0 = c.in_default.ensures.cases.0 in omega arith) c.index.ensures
