-- The steps that are left of a name behind a front part of it.
use Rattle.std.specs.Prelude.{List, map}
use Rattle.scc_core.specs.declared.places.NameStep.{NameStep}
use Rattle.scc_core.specs.declared.places.NameStep.TheVariants as step
use Rattle.scc_core.specs.declared.statics.Rest.{Rest}
use Rattle.scc_core.specs.declared.statics.Rest.TheVariants as rest
use Rattle.scc_core.specs.Names.{step_of}

abbrev pub steps_in : Rest → List NameStep
steps_in (rest.Path path) = map step_of path.now
steps_in (rest.Indices is) = map step.Index is.now
