use Rattle.std.proofs.Common.{ℕ, ◌≤◌}
use Rattle.scc_plain_tree.specs.declared.stmt.PlainStmt.{size-PlainStmt}
use Rattle.scc_plain_tree.proofs.+gone_statement.Given as goal

abbrev pub decreases-stmt::PlainStmt::drop : goal.decreases-stmt::PlainStmt::drop
decreases-stmt::PlainStmt::drop l = goal.size-stmt::PlainStmt::drop l

abbrev pub invariant-stmt::PlainStmt::drop-loop : goal.invariant-stmt::PlainStmt::drop-loop
invariant-stmt::PlainStmt::drop-loop l = size-PlainStmt l.self ≤ size-PlainStmt l.initial.self
