use Rattle.std.proofs.Common.{◌≡◌, ◌-◌, ◌<◌, ◌≤◌, ◌++◌, sym, ap, ◌∙◌, arith, length, get_or, Bor}
use Rattle.std.specs.Prelude.{flat_map}
use Rattle.scc_core.specs.declared.expr.CoreExpr.{CoreExpr}
use Rattle.scc_core.specs.Operands.{first_of}
use Rattle.scc_core.proofs.Chains.{at_place, one_before}
use Rattle.scc_rules_walks.specs.Loads.{first_loads, index_loads, uses_of}
use Rattle.scc_rules_walks.proofs.Firsts.{each_ok}
use Rattle.scc_rules_walks.proofs.Terms.{begins, past_end, cell_inside, front_inside, null_inside, pick_told, join_told}
use Rattle.scc_rules_walks.proofs.loads.+loads.Goals as goal

abbrev lent : Bor CoreExpr → CoreExpr
lent x = x.now

pub loads_of-loop-left-init : goal.loads_of-loop-left-init
loads_of-loop-left-init t c = (omega arith, begins (uses_of c.args.out.now.items) _ (past_end lent c.in_ok-list.list.items _ (omega arith)))

pub loads_of-loop-left-preserved : goal.loads_of-loop-left-preserved
loads_of-loop-left-preserved t c =
    let below : c.loop-left.left - 1 ≤ length c.in_ok-list.list.items = omega arith in
    let some : 0 < c.loop-left.left = omega arith in
    let inside : c.loop-left.left - 1 < length c.in_ok-list.list.items = omega arith in
    let is : c.index.result.now ≡ get_or c.in_ok-list.list.items (c.loop-left.left - 1) c.index.result.now = c.index.ensures in
    let us = uses_of c.args.out.now.items in
    let first = one_before first_of lent c.args.e.now c.in_ok-list.list.items c.loop-left.left c.index.result.now some c.loop-left.invariant.0 c.in_ok-list.ensures is in (
      below,
      c.in_ok-beside.ensures us (c.loop-left.invariant.1 ∙ ap (λ o. us ++ first_loads o) first)
          ∙ ap (λ o. us ++ first_loads o) (sym (at_place first_of lent c.in_ok-list.list.items (c.loop-left.left - 1) c.index.result.now inside is)),
    )

pub inside_of-returns-in-Cell : goal.inside_of-returns-in-Cell
inside_of-returns-in-Cell t c = each_ok _ _ c.of_parts.result c.of_parts.ensures
    (λ x h. h ∙ ap (λ us. uses_of c.args.out.now.items ++ us) (ap (flat_map index_loads) c.as_slice.ensures.elements ∙ sym (cell_inside c.args.left.now c.in-Cell.field-0 c.in-Cell.is)))

pub inside_of-returns-in-Prefix : goal.inside_of-returns-in-Prefix
inside_of-returns-in-Prefix t c = each_ok _ _ c.of_parts-in-Prefix.result c.of_parts-in-Prefix.ensures
    (λ x h. h ∙ ap (λ us. uses_of c.args.out.now.items ++ us) (ap (flat_map index_loads) c.as_slice-in-Prefix.ensures.elements ∙ sym (front_inside c.args.left.now c.in-Prefix.field-0 c.in-Prefix.is)))

pub inside_of-returns-in-Null : goal.inside_of-returns-in-Null
inside_of-returns-in-Null t c = each_ok _ _ c.of_parts-in-Null.result c.of_parts-in-Null.ensures
    (λ x h. h ∙ ap (λ us. uses_of c.args.out.now.items ++ us) (ap (flat_map index_loads) c.as_slice-in-Null.ensures.elements ∙ sym (null_inside c.args.left.now c.in-Null.is)))

pub beside-returns-in_ok-whole-in-Pick : goal.beside-returns-in_ok-whole-in-Pick
beside-returns-in_ok-whole-in-Pick t c = λ us h.
    pick_told c.of_bits.result c.args.e.now c.in-Pick.of c.in-Pick.pick us _ _ c.in_ok-whole-in-Pick.whole (sym c.get.ensures.value ∙ c.in-Pick.is) c.in_ok-whole-in-Pick.ensures h c.of_bits.ensures.behind c.of_bits.ensures.before

pub beside-returns-in-Join : goal.beside-returns-in-Join
beside-returns-in-Join t c = λ us h.
    each_ok _ _ c.each_of.result c.each_of.ensures (λ x k. join_told c.args.e.now c.in-Join.parts _ us _ _ (sym c.get.ensures.value ∙ c.in-Join.is) c.as_slice.ensures.elements h k)
