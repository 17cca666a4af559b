use Rattle.std.proofs.Common.{◌≡◌, ◌+◌, ◌*◌, ◌≤◌, true, List, take}
use Rattle.std.specs.List.{list_all}
use Rattle.scc_core.specs.declared.expr.CoreExpr.{size-CoreExpr}
use Rattle.scc_core_look.specs.Fits.{IsGround, IsIn, part_fits}
use Rattle.scc_core_look.proofs.Trees.{LowTo}
use Rattle.scc_core_look.proofs.terms.+looks.Given as goal

abbrev pub invariant-expression_fits-loop-fit : goal.invariant-expression_fits-loop-fit
invariant-expression_fits-loop-fit l = l.fit ≡ true → IsGround l.g → IsIn l.g l.here → IsIn l.g l.e

abbrev pub decreases-expression_fits-loop-fit : goal.decreases-expression_fits-loop-fit
decreases-expression_fits-loop-fit l = size-CoreExpr l.here

abbrev pub invariant-low_parts_fit-loop-part : goal.invariant-low_parts_fit-loop-part
invariant-low_parts_fit-loop-part l = l.fit ≡ true → IsGround l.g → LowTo l.g l.limit l.initial.bits l.bits (take l.part-index l.parts)

abbrev pub invariant-parts_fit-loop-part : goal.invariant-parts_fit-loop-part
invariant-parts_fit-loop-part l = l.fit ≡ true → IsGround l.g → list_all (part_fits l.g) (take l.part-index l.parts) ≡ true

abbrev pub decreases-expression_fits : goal.decreases-expression_fits
decreases-expression_fits l = 8 * l.levels

abbrev pub decreases-part_fits : goal.decreases-part_fits
decreases-part_fits l = 8 * l.levels + 1

abbrev pub decreases-bits_fit : goal.decreases-bits_fit
decreases-bits_fit l = 8 * l.levels + 1

abbrev pub decreases-operand_fits : goal.decreases-operand_fits
decreases-operand_fits l = 8 * l.levels + 1

abbrev pub decreases-low_parts_fit : goal.decreases-low_parts_fit
decreases-low_parts_fit l = 8 * l.levels + 1

abbrev pub decreases-some_fit : goal.decreases-some_fit
decreases-some_fit l = 8 * l.levels + 2

abbrev pub decreases-join_fits : goal.decreases-join_fits
decreases-join_fits l = 8 * l.levels + 3

abbrev pub decreases-pick_fits : goal.decreases-pick_fits
decreases-pick_fits l = 8 * l.levels + 2

abbrev pub decreases-parts_fit : goal.decreases-parts_fit
decreases-parts_fit l = 8 * l.levels + 2

abbrev pub decreases-left_fits : goal.decreases-left_fits
decreases-left_fits l = 8 * l.levels + 4

abbrev pub decreases-load_fits : goal.decreases-load_fits
decreases-load_fits l = 8 * l.levels + 5

abbrev pub decreases-read_fits : goal.decreases-read_fits
decreases-read_fits l = 8 * l.levels + 5

abbrev pub decreases-beside_fits : goal.decreases-beside_fits
decreases-beside_fits l = 8 * l.levels + 7

abbrev pub decreases-front_fits : goal.decreases-front_fits
decreases-front_fits l = 8 * l.levels + 3
