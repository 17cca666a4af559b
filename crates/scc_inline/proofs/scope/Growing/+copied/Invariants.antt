use Rattle.std.proofs.Common.{◌+◌, ◌*◌}
use Rattle.scc_inline.specs.Begun.{Keeps}
use Rattle.scc_inline.proofs.scope.Growing.+copied.Given as goal

abbrev pub decreases-stmts : goal.decreases-stmts
decreases-stmts l = 8 * l.room + 0

abbrev pub decreases-body : goal.decreases-body
decreases-body l = 8 * l.room + 1

abbrev pub decreases-call : goal.decreases-call
decreases-call l = 8 * l.room + 2

abbrev pub decreases-repeat : goal.decreases-repeat
decreases-repeat l = 8 * l.room + 2

abbrev pub decreases-node : goal.decreases-node
decreases-node l = 8 * l.room + 3

abbrev pub invariant-stmts-loop-s : goal.invariant-stmts-loop-s
invariant-stmts-loop-s l = Keeps l.initial.self l.self
