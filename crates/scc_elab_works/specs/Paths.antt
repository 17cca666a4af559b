-- Paths of elements, and local variables that are declared element by element. This project's own.
use Rattle.std.specs.Prelude.{ℕ, Bool, List, [], ◌∷◌, ◌++◌, map, flat_map, Option, None, if◌then◌else◌}
use Rattle.std.specs.List.{range_with_len}
use Rattle.scc_semantics.specs.Location.{Part, Element}
use Rattle.scc_elab_spec.specs.Grown.{Grown, local_of, with_word, with_target}
use Rattle.scc_elab_spec.specs.Program.{Member}
use Rattle.scc_elab_spec.specs.Worth.{Site}
use Rattle.scc_elab_spec.specs.Bodies.{elements}
use Rattle.scc_elab_spec.specs.Construct.{declared_from, sizes_of}
use Rattle.scc_elab_spec.specs.Made.{elements_at}
use Rattle.scc_elab_store.specs.Locations.{part_of}
use Rattle.scc_elab_works.specs.declared.elements.ElementPath.{ElementPath}

abbrev pub path_of : ElementPath → List Part
path_of e = map part_of e.parts.items

abbrev pub paths_of : List ElementPath → List (List Part)
paths_of es = map path_of es

-- an element of a local variable is 0, or null
abbrev pub cleared : (direct : Bool) → (object local : ℕ) → List Part → Grown → Grown
cleared direct object n path g = if direct then with_word g (local_of object n path) 0 else with_target g (local_of object n path) None

abbrev pub all_cleared : (direct : Bool) → (object local : ℕ) → List (List Part) → Grown → Grown
all_cleared direct object n [] g = g
all_cleared direct object n (p ∷ ps) g = all_cleared direct object n ps (cleared direct object n p g)

-- a declaration of a local without initialiser
abbrev pub begun : Site → ℕ → Option Member → Grown → Grown
begun s n m g = declared_from s n m (elements (sizes_of m)) g

-- the elements of an array of which the first index is one of some
abbrev pub rows : List Part → List ℕ → (next count : ℕ) → List (List Part)
rows path sizes next count = flat_map (λ i. elements_at (path ++ Element i ∷ []) sizes) (range_with_len next count)
