-- What construction answers is what the definitions say; or memory is wanted. This project's own.
use Rattle.std.specs.Prelude.{◌≡◌, Bool, Option, Some, Result, Ok, Err}
use Rattle.scc_base.specs.declared.refusal.Stop.{Stop}
use Rattle.scc_base.specs.declared.refusal.Stop.TheVariants as stop
use Rattle.scc_core_spec.specs.Resolved.{Tried, Made, Stopped}
use Rattle.scc_elab_design.specs.declared.Design.{Design as Left}
use Rattle.scc_elab_spec.specs.Design.{Design}
use Rattle.scc_elab_spec.specs.Elaborated.{elaborated}
use Rattle.scc_elab_spec.specs.Program.{Plain}
use Rattle.scc_plain_view.specs.Designs.{design_of}

abbrev pub Comes : Option (Tried Design) → Result Left Stop → Type 0
Comes t (Ok d) = t ≡ Some (Made (design_of d))
Comes t (Err (stop.Refused r)) = t ≡ Some (Stopped r)
Comes t (Err stop.NoMemory) = Unit {0}

abbrev pub Elaborates : Bool → Plain → Result Left Stop → Type 0
Elaborates many p result = Comes (elaborated many p) result
