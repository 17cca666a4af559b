use Rattle.std.proofs.Common.{◌+◌, ◌*◌}
use Rattle.scc_core_flow.proofs.marks.Walk.+read.Given as goal

abbrev pub decreases-expr : goal.decreases-expr
decreases-expr l = 8 * l.levels

abbrev pub decreases-pick : goal.decreases-pick
decreases-pick l = 8 * l.levels + 1

abbrev pub decreases-inside : goal.decreases-inside
decreases-inside l = 8 * l.levels + 2

abbrev pub decreases-own : goal.decreases-own
decreases-own l = 8 * l.levels + 3
