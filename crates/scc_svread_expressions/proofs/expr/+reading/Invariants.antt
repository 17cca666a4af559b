use Rattle.std.proofs.Common.{◌≡◌, ◌+◌, ◌*◌, length}
use Rattle.scc_reading.specs.Reading.{repeat}
use Rattle.scc_reading.proofs.Loop.{before}
use Rattle.scc_svread_grammar.specs.Reader as p
use Rattle.scc_svread_expressions.proofs.expr.+reading.Given as goal

abbrev pub decreases-open_node : goal.decreases-open_node
decreases-open_node l = 64 * l.levels + 0

abbrev pub decreases-closed_expr : goal.decreases-closed_expr
decreases-closed_expr l = 64 * l.levels + 2

abbrev pub decreases-further : goal.decreases-further
decreases-further l = 64 * l.levels + 1

abbrev pub decreases-behind_width : goal.decreases-behind_width
decreases-behind_width l = 64 * l.levels + 3

abbrev pub decreases-parts : goal.decreases-parts
decreases-parts l = 64 * l.levels + 3

abbrev pub decreases-parts_behind : goal.decreases-parts_behind
decreases-parts_behind l = 64 * l.levels + 4

abbrev pub decreases-right_of : goal.decreases-right_of
decreases-right_of l = 64 * l.levels + 3

abbrev pub decreases-sized : goal.decreases-sized
decreases-sized l = 64 * l.levels + 4

abbrev pub decreases-sign : goal.decreases-sign
decreases-sign l = 64 * l.levels + 4

abbrev pub decreases-concat : goal.decreases-concat
decreases-concat l = 64 * l.levels + 5

abbrev pub decreases-cond_behind : goal.decreases-cond_behind
decreases-cond_behind l = 64 * l.levels + 4

abbrev pub decreases-binary_behind : goal.decreases-binary_behind
decreases-binary_behind l = 64 * l.levels + 4

abbrev pub decreases-unary_at : goal.decreases-unary_at
decreases-unary_at l = 64 * l.levels + 4

abbrev pub decreases-behind_first : goal.decreases-behind_first
decreases-behind_first l = 64 * l.levels + 5

abbrev pub decreases-operated : goal.decreases-operated
decreases-operated l = 64 * l.levels + 6

abbrev pub decreases-bracketed : goal.decreases-bracketed
decreases-bracketed l = 64 * l.levels + 7

abbrev pub decreases-expr : goal.decreases-expr
decreases-expr l = 64 * l.levels + 8

abbrev pub decreases-cond_last : goal.decreases-cond_last
decreases-cond_last l = 64 * l.levels + 3

abbrev pub invariant-parts-loop-alloc : goal.invariant-parts-loop-alloc
invariant-parts-loop-alloc l = before l.found (repeat p.is_comma (p.further (p.inner l.levels)) l.rest) ≡ before l.fn.front (repeat p.is_comma (p.further (p.inner l.levels)) l.fn.ts)

abbrev pub decreases-parts-loop-alloc : goal.decreases-parts-loop-alloc
decreases-parts-loop-alloc l = length l.rest
