-- A change of what is made ends a statement.
use Rattle.std.proofs.Common.{◌≡◌, refl, sym, ap, ◌∙◌}
use Rattle.std.specs.Prelude.{Result, Ok, Err}
use Rattle.scc_base.specs.declared.refusal.Stop.{Stop}
use Rattle.scc_base.specs.declared.refusal.Stop.TheVariants as stop
use Rattle.scc_core_spec.specs.Resolved.{Tried, Made, Stopped}
use Rattle.scc_elab_spec.specs.Grown.{Grown}
use Rattle.scc_elab_spec.specs.Construct.{Now, Ran, Fell, Halted, from_tried, grow}
use Rattle.scc_elab_grown.specs.Grown.{Grows}
use Rattle.scc_elab_works.specs.Runs.{Ends}

pub grows_ends : {A : Type 0} (r : Result A Stop) (g : Grown) (t : Tried Grown) (n : Now) → Grows r g t → Ends r (record { grown = g; last = n.last }) (grow n t Fell)
grows_ends (Ok a) g t n e = ap (λ t. grow n t Fell) e
grows_ends (Err (stop.Refused z)) g t n e = ap (λ t. grow n t Fell) e
grows_ends (Err stop.NoMemory) g t n e = tt
