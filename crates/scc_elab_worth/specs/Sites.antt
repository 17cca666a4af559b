-- Where an expression stands, and the spots that the code's locations stand for. This project's own.
use Rattle.std.specs.Prelude.{map, option_map}
use Rattle.scc_elab_store.specs.Locations.{location_of, part_of}
use Rattle.scc_elab_store.specs.Stores.{store_of}
use Rattle.scc_elab_worth.specs.declared.spots.Site.{Site}
use Rattle.scc_elab_worth.specs.declared.spots.Located.{Located}
use Rattle.scc_elab_worth.specs.Spots.{Around, Spot}

abbrev pub around : Site → Around
around s = record { plain = s.plain.now; function = s.function.now; object = s.object; path = map part_of s.path.now; store = store_of s.store.now }

abbrev pub spot_of : Located → Spot
spot_of l = record { at = option_map location_of l.at; base = l.base; vector = l.vector }
