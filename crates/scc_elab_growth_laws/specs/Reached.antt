-- Where the statements of constructors stand while construction runs.
use Rattle.std.specs.Prelude.{◌≡◌, ℕ}
use Rattle.scc_semantics.specs.Value.{Held}
use Rattle.scc_semantics.specs.Machine.{Ended}
use Rattle.scc_elab_spec.specs.Program.{Code}
use Rattle.scc_elab_spec.specs.Construct.{Now}
use Rattle.scc_elab_spec.specs.Common.{machine_run}
use Rattle.scc_elab_spec.specs.Grown.{nothing}
use Rattle.scc_elab_spec.specs.Worth.{Site}
use Rattle.scc_elab_growth_laws.specs.Sites.{IsOf}
use Rattle.scc_elab_growth_laws.specs.Changes.{Grows}

-- what is made grew from nothing, and the function is the constructor of the object at hand
pub record IsReached (s : Site) : Type 0 where
  pub grows : Grows s.plain nothing s.now
  pub ours : IsOf s.plain s.function s.object s.now

-- the machine makes of the store what the constructor makes of it
abbrev pub MakesStore : Site → Code → Now → Now → Type 0
MakesStore s c n m = (bound : ℕ) × (h : Held) × (machine_run s c bound n.grown ≡ Ended h) × (h.store ≡ m.grown.store)
