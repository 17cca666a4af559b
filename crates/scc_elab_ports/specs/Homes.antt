-- The module object around a path, looked for from the path's end. This project's own.
use Rattle.std.specs.Prelude.{ℕ, zero, suc, List, take, Option, Some, None, if◌then◌else◌}
use Rattle.scc_semantics.specs.Location.{Part}
use Rattle.scc_elab_spec.specs.Design.{Object}
use Rattle.scc_elab_grown.specs.Objects.{stands}

abbrev pub home_below : List Object → List Part → ℕ → Option (List Part)
home_below os path zero = None
home_below os path (suc n) = if (stands os (take n path)).has_class then Some (take n path) else home_below os path n
