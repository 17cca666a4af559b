-- What is made so far, as the definitions have it, and what a change of it answers. This project's own.
use Rattle.std.specs.Prelude.{◌≡◌, map, Result, Ok, Err}
use Rattle.scc_base.specs.declared.refusal.Stop.{Stop}
use Rattle.scc_base.specs.declared.refusal.Stop.TheVariants as stop
use Rattle.scc_core_spec.specs.Resolved.{Tried, Made, Stopped}
use Rattle.scc_elab_store.specs.Locations.{part_of}
use Rattle.scc_elab_store.specs.Stores.{store_of}
use Rattle.scc_elab_spec.specs.Design.{VectorSize}
use Rattle.scc_elab_spec.specs.Grown.{Grown}
use Rattle.scc_elab_grown.specs.declared.grown.Grown.{Grown as Held}
use Rattle.scc_elab_grown.specs.declared.grown.VectorAt.{VectorAt}
use Rattle.scc_elab_grown.specs.Objects.{object_of}
use Rattle.scc_elab_grown.specs.Bounds.{bound_in, made_in}
use Rattle.scc_elab_grown.specs.Records.{record_of}

abbrev pub vector_of : VectorAt → VectorSize
vector_of v = record { path = map part_of v.path.items; size = v.size }

abbrev pub grown_of : Held → Grown
grown_of g = record {
  objects = map object_of g.objects;
  store = store_of g.store;
  bound = bound_in g.bounds.by_port.entries;
  made = made_in g.news.at.entries;
  vectors = map vector_of g.vectors.items;
  declared = map record_of g.records;
  turns = g.turns;
  bits = g.bits;
}

-- it grew as the definition says, or is refused as it says, or memory is wanted
abbrev pub Grows : {A : Type 0} → Result A Stop → Grown → Tried Grown → Type 0
Grows (Ok a) g t = t ≡ Made g
Grows (Err (stop.Refused r)) g t = t ≡ Stopped r
Grows (Err stop.NoMemory) g t = Unit {0}
