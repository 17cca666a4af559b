-- The site of the definitions at which an expression stands, and answers that are those of the definitions there. This project's own.
use Rattle.std.specs.Prelude.{◌≡◌, Option, option_map, Result, Ok, Err}
use Rattle.scc_base.specs.declared.refusal.Stop.{Stop}
use Rattle.scc_base.specs.declared.refusal.Stop.TheVariants as stop
use Rattle.scc_bits.specs.Value.{Number}
use Rattle.scc_semantics.specs.Location.{Location}
use Rattle.scc_core_spec.specs.Resolved.{Tried, Made, Stopped}
use Rattle.scc_elab_store.specs.declared.locations.Location.{Location as Held}
use Rattle.scc_elab_store.specs.Locations.{location_of}
use Rattle.scc_elab_spec.specs.Term.{Term, kind_of}
use Rattle.scc_elab_spec.specs.Grown.{nothing, with_store}
use Rattle.scc_elab_spec.specs.Worth.{Site, worth}
use Rattle.scc_plain_view.specs.Plains.{plain_of, function_of}
use Rattle.scc_elab_worth.specs.Spots.{Around, Spot}

-- Of what is made so far an expression meets the store alone.
abbrev pub site_of : Around → Site
site_of g = record { plain = plain_of g.plain; function = function_of g.function; object = g.object; path = g.path; now = with_store nothing g.store }

-- the answer is what the definition makes, with the kind of the term, or its refusal; or memory is wanted
abbrev pub IsWorth : Result Number Stop → Site → Term → Type 0
IsWorth (Ok v) s t = (worth s t ≡ Made v.word) × (kind_of t ≡ v.kind)
IsWorth (Err (stop.Refused r)) s t = worth s t ≡ Stopped r
IsWorth (Err stop.NoMemory) s t = Unit {0}

abbrev pub IsSpot : {X : Type 0} → (X → Spot) → Result X Stop → Tried (Option Location) → Type 0
IsSpot view (Ok x) t = t ≡ Made (view x).at
IsSpot view (Err (stop.Refused r)) t = t ≡ Stopped r
IsSpot view (Err stop.NoMemory) t = Unit {0}

-- the answer is where the target leads, None for null, or the refusal; or memory is wanted
abbrev pub IsTarget : Result (Option Held) Stop → Tried (Option Location) → Type 0
IsTarget (Ok o) t = t ≡ Made (option_map location_of o)
IsTarget (Err (stop.Refused r)) t = t ≡ Stopped r
IsTarget (Err stop.NoMemory) t = Unit {0}
