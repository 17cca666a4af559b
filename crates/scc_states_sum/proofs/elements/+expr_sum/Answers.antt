use Rattle.std.proofs.Common.{◌≡◌, ◌<◌, ◌+◌, ℕ, Option, Some, None, map, length, sym, ap, ◌∙◌, arith}
use Rattle.scc_bits.specs.Value.{Number}
use Rattle.scc_core.specs.declared.expr.CoreExpr.{CoreExpr}
use Rattle.scc_states_sum.specs.Told.{numbers_in}
use Rattle.scc_states_sum.specs.Elements.{cut, total, under, optional, unknown, expr_elements, pick_elements, part_of}
use Rattle.scc_states_sum.specs.Counting.{counted, whole_part}
use Rattle.scc_states_sum.proofs.Nodes.{of_lit, of_load, of_read, of_convert, of_unary, of_binary, of_choose, of_bits, of_join, of_member, of_index, of_bit}
use Rattle.scc_states_sum.proofs.Nodes.{of_range, left_is}
use Rattle.scc_states_sum.proofs.Counts.{first_only, beside_first, beside_two, all_of, none_of, one_further, part_further, whole_is}
use Rattle.scc_states_sum.proofs.elements.+expr_sum.Goals as goal

plain_zero : (x y : ℕ) → y ≡ x + 0 → y ≡ x
plain_zero x y h = omega (arith, h)

pub beside-returns-in-Lit-clause-counts : goal.beside-returns-in-Lit-clause-counts
beside-returns-in-Lit-clause-counts t c = none_of _ (of_lit (numbers_in c.args.known) c.args.e.now c.in-Lit.field-0 (sym c.get.ensures.value
    ∙ c.in-Lit.is))

pub beside-returns-in-Convert-clause-counts : goal.beside-returns-in-Convert-clause-counts
beside-returns-in-Convert-clause-counts t c = first_only _ _ (of_convert (numbers_in c.args.known) c.args.e.now c.in-Convert.of (sym
    c.get.ensures.value ∙ c.in-Convert.is))

pub beside-returns-in-Load-clause-counts : goal.beside-returns-in-Load-clause-counts
beside-returns-in-Load-clause-counts t c = all_of _ _ _ c.of_left.ensures (of_load (numbers_in c.args.known) c.args.e.now c.in-Load.left
    (sym c.get.ensures.value ∙ c.in-Load.is))

pub beside-returns-in-Read-clause-counts : goal.beside-returns-in-Read-clause-counts
beside-returns-in-Read-clause-counts t c = all_of _ _ _ c.of_left-in-Read.ensures (of_read (numbers_in c.args.known) c.args.e.now
    c.in-Read.left (sym c.get.ensures.value ∙ c.in-Read.is))

pub beside-returns-in-Some-clause-counts : goal.beside-returns-in-Some-clause-counts
beside-returns-in-Some-clause-counts t c =
    beside_first _ _ _ _ c.of_expr.ensures
    (of_binary (numbers_in c.args.known) c.args.e.now c.in-Operate.op c.in-Operate.left c.in-Some.right (sym c.get.ensures.value ∙ cc))

pub beside-returns-in-None-clause-counts : goal.beside-returns-in-None-clause-counts
beside-returns-in-None-clause-counts t c =
    first_only _ _ (plain_zero _ _ (of_unary (numbers_in c.args.known) c.args.e.now c.in-Operate.op c.in-Operate.left (sym c.get.ensures.value ∙ cc)))

pub beside-returns-in-Choose-clause-counts : goal.beside-returns-in-Choose-clause-counts
beside-returns-in-Choose-clause-counts t c =
    beside_two _ _ _ _ _ _ _ c.of_expr-a.ensures c.of_expr-b.ensures c.plus.ensures
    (of_choose (numbers_in c.args.known) c.args.e.now c.in-Choose.test c.in-Choose.yes c.in-Choose.no (sym c.get.ensures.value ∙ c.in-Choose.is))

pub beside-returns-in-Pick-clause-counts : goal.beside-returns-in-Pick-clause-counts
beside-returns-in-Pick-clause-counts t c =
    beside_first _ _ _ _ c.of_pick.ensures
    (of_bits (numbers_in c.args.known) c.args.e.now c.in-Pick.of c.in-Pick.pick (sym c.get.ensures.value ∙ c.in-Pick.is))

pub beside-returns-in-Join-clause-counts : goal.beside-returns-in-Join-clause-counts
beside-returns-in-Join-clause-counts t c =
    let k : c.of_exprs.result ≡ cut (total (map (expr_elements (numbers_in c.args.known)) c.in-Join.parts)) =
    c.of_exprs.ensures ∙ ap (λ es. cut (total (map (expr_elements (numbers_in c.args.known)) es))) c.as_slice.ensures.elements in
    all_of _ _ _ k (of_join (numbers_in c.args.known) c.args.e.now c.in-Join.parts (sym c.get.ensures.value ∙ c.in-Join.is))

pub of_exprs-loop-e-preserved : goal.of_exprs-loop-e-preserved
of_exprs-loop-e-preserved t c =
    let i : c.loop-e.e-index < length c.args.list.now = omega arith in
    one_further (expr_elements (numbers_in c.args.known)) c.args.list.now c.loop-e.e-index c.e-item.result i c.e-item.is c.loop-e.sum
    c.of_expr.result c.plus-sum.result c.loop-e.invariant c.of_expr.ensures c.plus-sum.ensures

pub of_pick-returns-in-Bit : goal.of_pick-returns-in-Bit
of_pick-returns-in-Bit t c = all_of _ _ _ c.of_expr.ensures (of_bit (numbers_in c.args.known) c.args.pick.now c.in-Bit.of c.in-Bit.at c.in-Bit.is)

pub of_pick-returns-in-Range : goal.of_pick-returns-in-Range
of_pick-returns-in-Range t c = none_of _ (of_range (numbers_in c.args.known) c.args.pick.now c.in-Range.of c.in-Range.h c.in-Range.l c.in-Range.is)

pub of_part-returns-in-Member-clause-inside : goal.of_part-returns-in-Member-clause-inside
of_part-returns-in-Member-clause-inside t c =
    none_of _ (ap (λ p. p.inside) (of_member (numbers_in c.args.known) c.args.part.now c.in-Member.field-0 c.in-Member.is))

pub of_part-returns-in-Member-clause-size : goal.of_part-returns-in-Member-clause-size
of_part-returns-in-Member-clause-size t c =
    sym (ap (λ p. p.size) (of_member (numbers_in c.args.known) c.args.part.now c.in-Member.field-0 c.in-Member.is))

pub of_part-returns-in-Some-clause-inside : goal.of_part-returns-in-Some-clause-inside
of_part-returns-in-Some-clause-inside t c =
    all_of _ _ _ c.of_expr-inside.ensures (ap (λ p. p.inside) (of_index (numbers_in c.args.known) c.args.part.now c.in-Index.size c.in-Index.at
    c.in-Index.is))

pub of_part-returns-in-None-clause-inside : goal.of_part-returns-in-None-clause-inside
of_part-returns-in-None-clause-inside t c =
    all_of _ _ _ c.of_expr-inside.ensures (ap (λ p. p.inside) (of_index (numbers_in c.args.known) c.args.part.now c.in-Index.size c.in-Index.at
    c.in-Index.is))

pub of_part-returns-in-Some-clause-size : goal.of_part-returns-in-Some-clause-size
of_part-returns-in-Some-clause-size t c =
    let k : numbers_in c.args.known c.in-Index.at ≡ Some c.in-Some.field-0 = sym c.number_of.ensures ∙ c.in-Some.is in
    sym (ap (λ p. p.size) (of_index (numbers_in c.args.known) c.args.part.now c.in-Index.size c.in-Index.at c.in-Index.is)
    ∙ ap (λ o. unknown c.in-Index.size o) k)

pub of_part-returns-in-None-clause-size : goal.of_part-returns-in-None-clause-size
of_part-returns-in-None-clause-size t c =
    let k : numbers_in c.args.known c.in-Index.at ≡ None = sym c.number_of.ensures ∙ c.in-None.is in
    sym (ap (λ p. p.size) (of_index (numbers_in c.args.known) c.args.part.now c.in-Index.size c.in-Index.at c.in-Index.is)
    ∙ ap (λ o. unknown c.in-Index.size o) k)

pub of_parts-loop-part-preserved : goal.of_parts-loop-part-preserved
of_parts-loop-part-preserved t c =
    let i : c.loop-part.part-index < length c.args.parts.now = omega arith in
    part_further (part_of (numbers_in c.args.known)) c.args.parts.now c.loop-part.part-index c.part-item.result i c.part-item.is
    c.loop-part.all _ _ c.with-all.result c.loop-part.invariant c.of_part-inside.ensures.inside c.of_part-inside.ensures.size c.with-all.ensures

pub of_left-returns-in-Some : goal.of_left-returns-in-Some
of_left-returns-in-Some t c =
    let known : CoreExpr → Option Number = numbers_in c.args.known in
    c.whole.ensures
    ∙ ap (λ p. whole_part p c.of_pick.result) (c.of_parts-parts.ensures ∙ ap (λ ps. counted (map (part_of known) ps)) c.as_slice.ensures.elements)
    ∙ ap (λ n. whole_part (counted (map (part_of known) c.args.left.now.parts)) n) c.of_pick.ensures
    ∙ whole_is (map (part_of known) c.args.left.now.parts) (pick_elements known c.in-Some.pick)
    ∙ ap (λ o. cut (under (map (λ p. p.size) (map (part_of known) c.args.left.now.parts)) + (total (map (λ p. p.inside) (map (part_of known)
    c.args.left.now.parts)) + optional (pick_elements known) o))) (sym c.in-Some.is)
    ∙ ap cut (sym (left_is known c.args.left.now))

pub of_left-returns-in-None : goal.of_left-returns-in-None
of_left-returns-in-None t c =
    let known : CoreExpr → Option Number = numbers_in c.args.known in
    c.whole-in-None.ensures
    ∙ ap (λ p. whole_part p 0) (c.of_parts-parts.ensures ∙ ap (λ ps. counted (map (part_of known) ps)) c.as_slice.ensures.elements)
    ∙ whole_is (map (part_of known) c.args.left.now.parts) 0
    ∙ ap (λ o. cut (under (map (λ p. p.size) (map (part_of known) c.args.left.now.parts)) + (total (map (λ p. p.inside) (map (part_of known)
    c.args.left.now.parts)) + optional (pick_elements known) o))) (sym c.in-None.is)
    ∙ ap cut (sym (left_is known c.args.left.now))
