-- What a walk needs, and whether a queue has it (ISO C++ [temp.inst]).
use Rattle.std.specs.Prelude.{◌≡◌, Bool, true, List, [], ◌∷◌}
use Rattle.std.specs.List.{list_all, list_any}
use Rattle.scc_templates_spec.specs.Walk.{Event, Fault, Need, Late, Uses, Calls, Needed, same_needed}

-- the classes with arguments, and the functions of no class
abbrev pub needs : List Event → List Needed
needs [] = []
needs (Fault code place other ∷ es) = needs es
needs (Need x place ∷ es) = x ∷ needs es
needs (Late place ∷ es) = needs es
needs (Uses ∷ es) = needs es
needs (Calls f how place ∷ es) = needs es

abbrev pub has_all : List Needed → List Event → Bool
has_all q es = list_all (λ x. list_any (same_needed x) q) (needs es)

abbrev pub HasAll : List Needed → List Event → Type 0
HasAll q es = has_all q es ≡ true
