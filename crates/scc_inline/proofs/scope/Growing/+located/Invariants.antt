use Rattle.std.proofs.Common.{◌+◌, ◌*◌}
use Rattle.scc_inline.proofs.scope.Growing.+located.Given as goal

abbrev pub decreases-left_in : goal.decreases-left_in
decreases-left_in l = 8 * l.levels

abbrev pub decreases-expr_in : goal.decreases-expr_in
decreases-expr_in l = 8 * l.levels

abbrev pub decreases-list : goal.decreases-list
decreases-list l = 8 * l.levels + 1

abbrev pub decreases-pick : goal.decreases-pick
decreases-pick l = 8 * l.levels + 1

abbrev pub decreases-level : goal.decreases-level
decreases-level l = 8 * l.levels + 2

abbrev pub decreases-over : goal.decreases-over
decreases-over l = 8 * l.levels + 3
