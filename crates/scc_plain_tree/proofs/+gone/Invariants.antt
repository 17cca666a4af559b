use Rattle.std.proofs.Common.{ℕ, ◌≤◌}
use Rattle.scc_plain_tree.specs.declared.expr.PlainExpr.{size-PlainExpr}
use Rattle.scc_plain_tree.specs.declared.expr.PlainLeft.{size-PlainLeft}
use Rattle.scc_plain_tree.proofs.+gone.Given as goal

abbrev pub decreases-expr::PlainExpr::drop : goal.decreases-expr::PlainExpr::drop
decreases-expr::PlainExpr::drop l = goal.size-expr::PlainExpr::drop l

abbrev pub decreases-expr::PlainLeft::drop : goal.decreases-expr::PlainLeft::drop
decreases-expr::PlainLeft::drop l = goal.size-expr::PlainLeft::drop l

abbrev pub invariant-expr::PlainExpr::drop-loop-word : goal.invariant-expr::PlainExpr::drop-loop-word
invariant-expr::PlainExpr::drop-loop-word l = size-PlainExpr l.self ≤ size-PlainExpr l.initial.self

abbrev pub invariant-expr::PlainLeft::drop-loop-local : goal.invariant-expr::PlainLeft::drop-loop-local
invariant-expr::PlainLeft::drop-loop-local l = size-PlainLeft l.self ≤ size-PlainLeft l.initial.self
