use Rattle.std.proofs.Common.{ℕ, ◌+◌, ◌*◌}
use Rattle.scc_plain_bodies.proofs.walk.Walk.+expression.Given as goal

abbrev pub decreases-meant : goal.decreases-meant
decreases-meant c = 8 * c.flow.room + 0

abbrev pub decreases-value : goal.decreases-value
decreases-value c = 8 * c.flow.room + 1

abbrev pub decreases-chain : goal.decreases-chain
decreases-chain c = 8 * c.flow.room + 2

abbrev pub decreases-choice : goal.decreases-choice
decreases-choice c = 8 * c.flow.room + 2

abbrev pub decreases-concat : goal.decreases-concat
decreases-concat c = 8 * c.flow.room + 2

abbrev pub decreases-target : goal.decreases-target
decreases-target c = 8 * c.flow.room + 1

abbrev pub decreases-any_of : goal.decreases-any_of
decreases-any_of c = 8 * c.flow.room + 2

abbrev pub decreases-argument : goal.decreases-argument
decreases-argument c = 8 * c.flow.room + 3

abbrev pub decreases-arguments : goal.decreases-arguments
decreases-arguments c = 8 * c.flow.room + 4

abbrev pub decreases-called : goal.decreases-called
decreases-called c = 8 * c.flow.room + 5

abbrev pub decreases-parts : goal.decreases-parts
decreases-parts c = 8 * c.flow.room + 6
