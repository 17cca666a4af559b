use Rattle.std.proofs.Common.{◌≡◌, ◌+◌, ◌*◌, map, drop, true}
use Rattle.scc_plain_tree.specs.declared.expr.PlainExpr.{size-PlainExpr}
use Rattle.scc_plain_tree.specs.declared.expr.PlainLeft.{size-PlainLeft}
use Rattle.scc_plain_look.specs.Held.{around}
use Rattle.scc_plain_look.specs.Seen as seen
use Rattle.scc_plain_look.proofs.expression.+expression.Given as goal

abbrev pub decreases-look_expr : goal.decreases-look_expr
decreases-look_expr c = 8 * c.room

abbrev pub decreases-look_exprs : goal.decreases-look_exprs
decreases-look_exprs c = 8 * c.room + 1

abbrev pub decreases-look_operand : goal.decreases-look_operand
decreases-look_operand c = 8 * c.room + 1

abbrev pub decreases-look_pick : goal.decreases-look_pick
decreases-look_pick c = 8 * c.room + 1

abbrev pub decreases-look_picked : goal.decreases-look_picked
decreases-look_picked c = 8 * c.room + 2

abbrev pub decreases-look_part : goal.decreases-look_part
decreases-look_part c = 8 * c.room + 1

abbrev pub decreases-look_parts : goal.decreases-look_parts
decreases-look_parts c = 8 * c.room + 2

abbrev pub decreases-look_left : goal.decreases-look_left
decreases-look_left c = 8 * c.room + 3

abbrev pub decreases-look_number : goal.decreases-look_number
decreases-look_number c = 8 * c.room + 4

abbrev pub decreases-look_port : goal.decreases-look_port
decreases-look_port c = 8 * c.room + 4

abbrev pub invariant-look_expr-loop-word : goal.invariant-look_expr-loop-word
invariant-look_expr-loop-word l =
    let a = around l.s.plain.now l.s.function.now l.s.calls.now in
    (seen.expr l.here).whole a ≡ true → (seen.expr l.e).whole a ≡ true

abbrev pub invariant-look_left-loop-pointer : goal.invariant-look_left-loop-pointer
invariant-look_left-loop-pointer l =
    let a = around l.s.plain.now l.s.function.now l.s.calls.now in
    (seen.left l.here).whole a ≡ true → (seen.left l.left).whole a ≡ true

abbrev pub invariant-look_exprs-loop-e : goal.invariant-look_exprs-loop-e
invariant-look_exprs-loop-e l =
    let a = around l.s.plain.now l.s.function.now l.s.calls.now in
    seen.each_whole (map seen.expr (drop l.e-index l.list)) a ≡ seen.each_whole (map seen.expr l.list) a

abbrev pub invariant-look_parts-loop-part : goal.invariant-look_parts-loop-part
invariant-look_parts-loop-part l =
    let a = around l.s.plain.now l.s.function.now l.s.calls.now in
    seen.parts_whole (map seen.part (drop l.part-index l.parts)) a ≡ seen.parts_whole (map seen.part l.parts) a

abbrev pub decreases-look_expr-loop-word : goal.decreases-look_expr-loop-word
decreases-look_expr-loop-word l = size-PlainExpr l.here

abbrev pub decreases-look_left-loop-pointer : goal.decreases-look_left-loop-pointer
decreases-look_left-loop-pointer l = size-PlainLeft l.here
