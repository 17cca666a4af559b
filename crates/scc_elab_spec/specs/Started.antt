-- The words of a start: one for each signal and variable, in construction order; all else is 0. This project's own.
use Rattle.std.specs.Prelude.{ℕ, Bool, true, false, List, [], ◌∷◌, if◌then◌else◌}
use Rattle.scc_semantics.specs.Location.{Location, same}
use Rattle.scc_elab_spec.specs.Design.{Object, Node, Signal, Variable}
use Rattle.scc_elab_spec.specs.Grown.{at_path}

abbrev pub holds_start : Node → Bool
holds_start (Signal k) = true
holds_start (Variable k w) = true
holds_start n = false

-- the store of some words, at the objects from the first on
abbrev pub started : List Object → List ℕ → Location → ℕ
started [] ws l = 0
started (o ∷ os) [] l = 0
started (o ∷ os) (w ∷ ws) l = if holds_start o.node then (if same (at_path o.path) l then w else started os ws l) else started os (w ∷ ws) l
