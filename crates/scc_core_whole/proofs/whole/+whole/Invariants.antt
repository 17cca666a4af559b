use Rattle.std.proofs.Common.{◌≡◌, ◌+◌, ◌*◌, true}
use Rattle.scc_core.specs.declared.expr.CoreExpr.{size-CoreExpr}
use Rattle.scc_core_view.specs.Whole.{IsWhole}
use Rattle.scc_core_whole.specs.Parts.{HaveNames}
use Rattle.scc_core_whole.proofs.whole.+whole.Given as goal

abbrev pub invariant-is_whole-loop-whole : goal.invariant-is_whole-loop-whole
invariant-is_whole-loop-whole l = HaveNames l.cells → l.whole ≡ true → IsWhole l.cells l.here → IsWhole l.cells l.e

abbrev pub decreases-is_whole-loop-whole : goal.decreases-is_whole-loop-whole
decreases-is_whole-loop-whole l = size-CoreExpr l.here

abbrev pub decreases-is_whole : goal.decreases-is_whole
decreases-is_whole l = 4 * l.levels

abbrev pub decreases-is_right : goal.decreases-is_right
decreases-is_right l = 4 * l.levels + 1

abbrev pub decreases-is_operated : goal.decreases-is_operated
decreases-is_operated l = 4 * l.levels + 2

abbrev pub decreases-beside_whole : goal.decreases-beside_whole
decreases-beside_whole l = 4 * l.levels + 3
