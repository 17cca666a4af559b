-- What is uncounted of a loop and of what stands in it.
use Rattle.std.specs.Prelude.{◌+◌, Bool, true, false, List, [], ◌∷◌, ◌++◌, Option, Some, None}
use Rattle.scc_core_spec.specs.Code.{Code, holds_wait}
use Rattle.scc_core_spec.specs.Counted.{Counter, Counting, Elsewhere, Setting, around}
use Rattle.scc_core_spec.specs.Unrolled.{Spot, spots_if, uncounted}

-- a loop without a wait that isn't counted
abbrev pub is_left : Bool → Option Counting → Bool
is_left true g = false
is_left false (Some g) = false
is_left false None = true

-- the loops that are left of a loop and of what stands in it
abbrev pub looked_into : Setting → List Counter → Option Counting → Spot → Code → List Spot
looked_into s ns g spot b = spots_if (is_left (holds_wait b) g) (spot ∷ []) ++ uncounted s (around ns g) Elsewhere (spot.number + 1) b
