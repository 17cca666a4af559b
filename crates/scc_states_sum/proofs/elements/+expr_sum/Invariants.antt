use Rattle.std.proofs.Common.{◌≡◌, ◌+◌, ◌*◌, ◌≤◌, map, take}
use Rattle.scc_core.specs.declared.expr.CoreExpr.{size-CoreExpr}
use Rattle.scc_states_sum.specs.Told.{numbers_in}
use Rattle.scc_states_sum.specs.Elements.{cut, total, expr_elements, part_of}
use Rattle.scc_states_sum.specs.Counting.{counted}
use Rattle.scc_states_sum.proofs.elements.+expr_sum.Given as goal

abbrev pub decreases-of_expr : goal.decreases-of_expr
decreases-of_expr l = 4 * goal.size-of_expr l + 1

abbrev pub decreases-beside : goal.decreases-beside
decreases-beside l = 4 * goal.size-beside l

abbrev pub decreases-of_exprs : goal.decreases-of_exprs
decreases-of_exprs l = 4 * goal.size-of_exprs l + 2

abbrev pub decreases-of_pick : goal.decreases-of_pick
decreases-of_pick l = 4 * goal.size-of_pick l

abbrev pub decreases-of_part : goal.decreases-of_part
decreases-of_part l = 4 * goal.size-of_part l

abbrev pub decreases-of_parts : goal.decreases-of_parts
decreases-of_parts l = 4 * goal.size-of_parts l + 2

abbrev pub decreases-of_left : goal.decreases-of_left
decreases-of_left l = 4 * goal.size-of_left l

abbrev pub decreases-of_expr-loop-inner : goal.decreases-of_expr-loop-inner
decreases-of_expr-loop-inner l = size-CoreExpr l.here

abbrev pub invariant-of_expr-loop-inner : goal.invariant-of_expr-loop-inner
invariant-of_expr-loop-inner l =
    (size-CoreExpr l.here ≤ size-CoreExpr l.e)
    × (cut (l.sum + expr_elements (numbers_in l.known) l.here) ≡ cut (expr_elements (numbers_in l.known) l.e))

abbrev pub invariant-of_exprs-loop-e : goal.invariant-of_exprs-loop-e
invariant-of_exprs-loop-e l = l.sum ≡ cut (total (map (expr_elements (numbers_in l.known)) (take l.e-index l.list)))

abbrev pub invariant-of_parts-loop-part : goal.invariant-of_parts-loop-part
invariant-of_parts-loop-part l = l.all ≡ counted (map (part_of (numbers_in l.known)) (take l.part-index l.parts))
