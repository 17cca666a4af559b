-- What pointers reach, noted by paths. This project's own.
use Rattle.std.specs.Prelude.{◌≡◌, ℕ, ◌&&◌, List, Option, position, option_and_then}
use Rattle.scc_semantics.specs.Location.{Part, Location, same_path}
use Rattle.scc_elab_spec.specs.Design.{Object}
use Rattle.scc_elab_spec.specs.Grown.{at_path, path_if_top}
use Rattle.scc_elab_spec.specs.Elaborated.{is_reached}
use Rattle.scc_elab_store.specs.declared.locations.Location.{Location as Held}
use Rattle.scc_elab_store.specs.Stores.{entry_at}

-- the first object of a class or thing at a path
abbrev pub reached_at : List Object → List Part → Option ℕ
reached_at os path = position (λ o. is_reached o.node && same_path o.path path) os

abbrev pub Reaches : List Object → List (Held × ℕ) → Type 0
Reaches os es = (path : List Part) → entry_at es (at_path path) ≡ reached_at os path

abbrev pub reached_from : List Object → Option Location → Option ℕ
reached_from os t = option_and_then (λ l. option_and_then (reached_at os) (path_if_top l)) t
