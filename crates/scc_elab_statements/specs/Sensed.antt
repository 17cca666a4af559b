-- Items of sensitivities, and resets, as the definitions have them. This project's own.
use Rattle.std.specs.Prelude.{◌≡◌, ℕ, Bool, List, map, Option, Result, Ok, Err}
use Rattle.scc_base.specs.declared.refusal.Place.{Place}
use Rattle.scc_base.specs.declared.refusal.Stop.{Stop}
use Rattle.scc_base.specs.declared.refusal.Stop.TheVariants as stop
use Rattle.scc_core_spec.specs.Resolved.{Tried, Made, Stopped, and_made, made_map}
use Rattle.scc_elab_spec.specs.Term.{Term, Left}
use Rattle.scc_elab_spec.specs.Grown as grown
use Rattle.scc_elab_spec.specs.Grown.{Grown, with_declared}
use Rattle.scc_elab_spec.specs.Worth.{Site, worth}
use Rattle.scc_elab_spec.specs.Binding.{channel, changed_at, with_reset}
use Rattle.scc_elab_spec.specs.Construct.{is_true}
use Rattle.scc_elab_grown.specs.declared.records.Item.{Item}
use Rattle.scc_elab_grown.specs.Records.{item_of}

-- the answer is the item, or the refusal; or memory is wanted
abbrev pub IsItem : Result Item Stop → Tried grown.Item → Type 0
IsItem (Ok i) t = t ≡ Made (item_of i)
IsItem (Err (stop.Refused r)) t = t ≡ Stopped r
IsItem (Err stop.NoMemory) t = Unit {0}

abbrev pub IsItems : {X : Type 0} → (X → List Item) → Result X Stop → Tried (List grown.Item) → Type 0
IsItems view (Ok x) t = t ≡ Made (map item_of (view x))
IsItems view (Err (stop.Refused r)) t = t ≡ Stopped r
IsItems view (Err stop.NoMemory) t = Unit {0}

-- a process gets a reset
abbrev pub reset_in : Site → Place → ℕ → Option Left → Term → Bool → Tried Grown
reset_in s p k signal level asynchronous = and_made (channel s signal) (λ c. made_map
    (λ w. with_declared s.now (changed_at k (with_reset (record { place = p; signal = c; level = is_true w; asynchronous = asynchronous })) s.now.declared)) (worth s level))
