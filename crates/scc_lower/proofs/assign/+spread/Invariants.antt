use Rattle.std.proofs.Common.{◌≤◌, ◌+◌, ◌*◌, map}
use Rattle.scc_lower_expressions.specs.Becoming.{given_of, opened_of, seen_of}
use Rattle.scc_lower.proofs.Arms.{AllArms}
use Rattle.scc_lower.proofs.assign.+spread.Given as goal

abbrev pub decreases-spread : goal.decreases-spread
decreases-spread l = 2 * l.levels

abbrev pub decreases-arm_of : goal.decreases-arm_of
decreases-arm_of l = 2 * l.levels + 1

abbrev pub invariant-spread-loop-i : goal.invariant-spread-loop-i
invariant-spread-loop-i l = (l.i ≤ l.i-end) × AllArms (given_of l.cells) (map seen_of l.cx.views.now) (opened_of l.open) (map opened_of l.inner) l.first l.written l.i l.arms
