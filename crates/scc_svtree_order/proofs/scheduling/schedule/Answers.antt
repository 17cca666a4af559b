use Rattle.std.proofs.Common.{◌≡◌, ◌≤◌, ◌<◌, ◌+◌, List, [], ℕ, Bool, true, length, refl, sym, ap, ◌∙◌, subst, arith}
use Rattle.scc_svtree.specs.Settled.{Order, combs_of}
use Rattle.scc_svtree_order.specs.Fed.{Rows, graph_of}
use Rattle.scc_svtree_order.specs.Schedule.{Swept}
use Rattle.scc_svtree_order.specs.Search.{is_seen}
use Rattle.scc_svtree_order.proofs.Placing.{Rounds, round_turns, rounds_start, rounds_end, rows_tell, all_placed}
use Rattle.scc_svtree_order.proofs.scheduling.schedule.Goals as goal

pub sweep-requires : goal.sweep-requires
sweep-requires c = (c.loop.invariant c.requires).long ∙ ap length (sym c.in_ok-g.ensures)

pub loop-init : goal.loop-init
loop-init c = λ o.
    let bs = c.args.blocks.now in
    let old = c.in_ok-done.done.items in
    let P : Rows → Type 0 = λ g. Swept g 0 old c.new-list.result.items c.place_each.new.done.items c.place_each.new.list.items in
    let Q : List ℕ → Type 0 = λ l. Swept (graph_of bs) 0 old l c.place_each.new.done.items c.place_each.new.list.items in
    rounds_start (combs_of bs) o (graph_of bs) old c.place_each.new.done.items c.place_each.new.list.items (rows_tell bs (graph_of bs) refl)
    (let a : length c.in_ok-g.g ≡ length (graph_of bs) = ap length c.in_ok-g.ensures in c.in_ok-done.ensures.long ∙ c.len.ensures.length ∙ a)
    c.in_ok-done.ensures.none
    (subst Q c.new-list.ensures.items (subst P c.in_ok-g.ensures c.in_ok-place_each.ensures))

pub returns-then-none_left : goal.returns-then-none_left
returns-then-none_left c =
    let bs = c.args.blocks.now in
    let o = c.requires in
    all_placed (combs_of bs) o (graph_of bs) c.loop.counter c.loop.done.items c.loop.list.items (rows_tell bs (graph_of bs) refl) (c.loop.invariant o)
    (λ k l. let P : List Bool → Type 0 = λ d. is_seen d k ≡ true in
    let a : length c.in_ok-g.g ≡ length (graph_of bs) = ap length c.in_ok-g.ensures in
    let b : c.len-in-loop.result ≡ length c.in_ok-g.g = c.len-in-loop.ensures.length in
    subst P c.as_slice-in-loop.ensures.value (c.none_left.ensures c.if-none_left.true k (omega (arith, a, b, l))))

pub loop-preserved : goal.loop-preserved
loop-preserved c = λ o.
    let bs = c.args.blocks.now in
    let P : Rows → Type 0 = λ g. Swept g (length g) c.loop.done.items c.loop.list.items c.sweep.new.done.items c.sweep.new.list.items in
    round_turns (combs_of bs) o (graph_of bs) c.loop.counter c.loop.done.items c.sweep.new.done.items c.loop.list.items c.sweep.new.list.items (rows_tell bs (graph_of bs) refl) (c.loop.invariant o)
    (subst P c.in_ok-g.ensures c.in_ok-sweep.ensures)

pub returns : goal.returns
returns c =
    let bs = c.args.blocks.now in
    let a : length c.in_ok-g.g ≡ length (graph_of bs) = ap length c.in_ok-g.ensures in
    let b = c.len-end.ensures.length in
    let d = c.loop-test.false in
    rounds_end (combs_of bs) c.requires (graph_of bs) c.loop.counter c.loop.done.items c.loop.list.items (rows_tell bs (graph_of bs) refl) (c.loop.invariant c.requires) (omega (arith, a, b, d))
