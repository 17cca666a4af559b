-- The steps of names as those of the definitions. This project's own.
use Rattle.scc_core.specs.declared.places.NameStep.{NameStep}
use Rattle.scc_core.specs.declared.places.NameStep.TheVariants as step
use Rattle.scc_core_spec.specs.Named.{Step, Named, At, Ours}

abbrev pub step_in : NameStep → Step
step_in (step.Member n) = Named n.0
step_in (step.Index i) = At i
step_in (step.Local n) = Ours n
