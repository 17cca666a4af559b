-- One object that is left, and what a process senses. This project's own.
use Rattle.std.specs.Prelude.{ℕ, List, [], ◌∷◌, ◌++◌, Option, Some, None, option_map, not, is_some, if◌then◌else◌}
use Rattle.scc_elab_spec.specs.Design.{Object, Edge}
use Rattle.scc_elab_spec.specs.Grown.{Grown, Item}
use Rattle.scc_elab_spec.specs.After.{Clock, root}
use Rattle.scc_elab_spec.specs.Elaborated.{left_node}

abbrev pub object_left : Grown → ℕ → Object → Object
object_left g n o = record { path = o.path; place = o.place; node = left_node g n o o.node }

abbrev pub at_most_one : {A : Type 0} → Option A → List A
at_most_one (Some x) = x ∷ []
at_most_one None = []

-- an item of which the level counts
abbrev pub sensed : Grown → Item → List ℕ
sensed g i = if not (is_some i.rising) then at_most_one (option_map (root g) i.signal) else []

abbrev pub all_sensed : Grown → List Item → List ℕ
all_sensed g [] = []
all_sensed g (i ∷ is) = sensed g i ++ all_sensed g is

abbrev pub edge_by : Clock → Edge
edge_by c = record { root = c.root; rising = c.rising }
