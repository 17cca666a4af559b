use Rattle.std.proofs.Common.{◌≡◌, ◌-◌, ◌<◌, ◌≤◌, sym, ap, ◌∙◌, arith, length, get_or, map, option_map, Bor, Bool, Some}
use Rattle.std.proofs.lemmas.Result.{err_from_is_err_and}
use Rattle.scc_core.specs.declared.expr.CoreExpr.{CoreExpr}
use Rattle.scc_core.specs.declared.expr.CoreLeft.{CoreLeft}
use Rattle.scc_core.proofs.Chains.{at_place, one_before}
use Rattle.scc_pointers_walk.specs.Walked.{expr_in, first_of, pointer_of, reached}
use Rattle.scc_pointers_walk.proofs.Chained.{expr_stops, left_stops, stopped_as, stops_from}
use Rattle.scc_pointers_walk.proofs.walk.+resolve.Goals as goal

abbrev lent : Bor CoreExpr → CoreExpr
lent x = x.now

abbrev lent_left : Bor CoreLeft × Bool → CoreLeft × Bool
lent_left x = (x.0.now, x.1)

pub expr_in-loop-more-preserved : goal.expr_in-loop-more-preserved
expr_in-loop-more-preserved t c =
    let below : c.loop-more.more - 1 ≤ length c.in_ok-list.list.items = omega arith in
    let some : 0 < c.loop-more.more = omega arith in
    let inside : c.loop-more.more - 1 < length c.in_ok-list.list.items = omega arith in
    let is : c.index.result.now ≡ get_or c.in_ok-list.list.items (c.loop-more.more - 1) c.index.result.now = c.index.ensures in
    let first = c.loop-more.invariant.1 ∙ ap (option_map (expr_in c.args.r.now)) (one_before first_of lent c.args.e.now c.in_ok-list.list.items c.loop-more.more c.index.result.now some
    c.loop-more.invariant.0 c.in_ok-list.ensures is) in (
      below,
      ap Some (sym (c.in_ok-over.ensures.trees first)) ∙ sym (ap (option_map (expr_in c.args.r.now)) (at_place first_of lent c.in_ok-list.list.items (c.loop-more.more - 1) c.index.result.now inside is)),
    )

pub expr_in-returns-in_err-over-clause-trees : goal.expr_in-returns-in_err-over-clause-trees
expr_in-returns-in_err-over-clause-trees t c =
    let some : 0 < c.loop-more.more = omega arith in
    let inside : c.loop-more.more - 1 < length c.in_ok-list.list.items = omega arith in
    let is : c.index.result.now ≡ get_or c.in_ok-list.list.items (c.loop-more.more - 1) c.index.result.now = c.index.ensures in
    let first = c.loop-more.invariant.1 ∙ ap (option_map (expr_in c.args.r.now)) (one_before first_of lent c.args.e.now c.in_ok-list.list.items c.loop-more.more c.index.result.now some
    c.loop-more.invariant.0 c.in_ok-list.ensures is) in
    let p = err_from_is_err_and c.from_residual-in_err-over.result c.from_residual-in_err-over.ensures.1 in
    rw (p.1, p.2) (stopped_as c.in_err-over.field-0.0 (expr_in c.args.r.now c.index.result.now.now) (expr_in c.args.r.now c.args.e.now) (c.in_err-over.ensures.trees first)
    (λ q s. stops_from first_of (expr_in c.args.r.now) (expr_stops c.args.r.now) c.args.e.now (map lent c.in_ok-list.list.items) (c.loop-more.more - 1) c.index.result.now.now q c.in_ok-list.ensures
    (at_place first_of lent c.in_ok-list.list.items (c.loop-more.more - 1) c.index.result.now inside is) s))

pub reached-returns-in-None-clause-trees : goal.reached-returns-in-None-clause-trees
reached-returns-in-None-clause-trees t c = λ h. c.based.ensures.trees c.args.at.1

pub to-loop-more-preserved : goal.to-loop-more-preserved
to-loop-more-preserved t c =
    let below : c.loop-more.more - 1 ≤ length c.in_ok-list.list.items = omega arith in
    let some : 0 < c.loop-more.more = omega arith in
    let inside : c.loop-more.more - 1 < length c.in_ok-list.list.items = omega arith in
    let is : c.index.result.now ≡ get_or c.in_ok-list.list.items (c.loop-more.more - 1) c.index.result.now = c.index.ensures in
    let first = c.loop-more.invariant.1 ∙ ap (option_map (reached c.args.r.now)) (one_before pointer_of lent_left (c.args.left.now, c.args.soft) c.in_ok-list.list.items c.loop-more.more c.index.result.now some
    c.loop-more.invariant.0 c.in_ok-list.ensures is) in (
      below,
      ap Some (sym (c.in_ok-reached.ensures.trees first)) ∙ sym (ap (option_map (reached c.args.r.now)) (at_place pointer_of lent_left c.in_ok-list.list.items (c.loop-more.more - 1) c.index.result.now inside is)),
    )

pub to-returns-in_err-reached-clause-trees : goal.to-returns-in_err-reached-clause-trees
to-returns-in_err-reached-clause-trees t c =
    let some : 0 < c.loop-more.more = omega arith in
    let inside : c.loop-more.more - 1 < length c.in_ok-list.list.items = omega arith in
    let is : c.index.result.now ≡ get_or c.in_ok-list.list.items (c.loop-more.more - 1) c.index.result.now = c.index.ensures in
    let first = c.loop-more.invariant.1 ∙ ap (option_map (reached c.args.r.now)) (one_before pointer_of lent_left (c.args.left.now, c.args.soft) c.in_ok-list.list.items c.loop-more.more c.index.result.now some
    c.loop-more.invariant.0 c.in_ok-list.ensures is) in
    let p = err_from_is_err_and c.from_residual-in_err-reached.result c.from_residual-in_err-reached.ensures.1 in
    rw (p.1, p.2) (stopped_as c.in_err-reached.field-0.0 (reached c.args.r.now (lent_left c.index.result.now)) (reached c.args.r.now (c.args.left.now, c.args.soft)) (c.in_err-reached.ensures.trees first)
    (λ q s. stops_from pointer_of (reached c.args.r.now) (left_stops c.args.r.now) (c.args.left.now, c.args.soft) (map lent_left c.in_ok-list.list.items) (c.loop-more.more - 1) (lent_left c.index.result.now) q c.in_ok-list.ensures
    (at_place pointer_of lent_left c.in_ok-list.list.items (c.loop-more.more - 1) c.index.result.now inside is) s))
