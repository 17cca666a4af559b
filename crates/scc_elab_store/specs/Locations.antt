-- The locations of the definitions that the code's locations stand for. This project's own.
use Rattle.std.specs.Prelude.{[], map, Option, Some, None}
use Rattle.scc_semantics.specs.Location.{Location, Root, Top, Local}
use Rattle.scc_semantics.specs.Location as location
use Rattle.scc_elab_store.specs.declared.locations.LocalOf.{LocalOf}
use Rattle.scc_elab_store.specs.declared.locations.Location.{Location as Held}
use Rattle.scc_elab_store.specs.declared.locations.Part.{Part}
use Rattle.scc_elab_store.specs.declared.locations.Part.TheVariants as part

abbrev pub part_of : Part → location.Part
part_of (part.Member n) = location.Member n.0
part_of (part.Element i) = location.Element i

abbrev pub root_of : Option LocalOf → Root
root_of None = Top
root_of (Some l) = Local l.object [] l.local

abbrev pub location_of : Held → Location
location_of h = record { root = root_of h.local; path = map part_of h.path.items }
