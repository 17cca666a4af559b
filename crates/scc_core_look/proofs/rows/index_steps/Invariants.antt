use Rattle.std.proofs.Common.{◌≡◌, ◌++◌, map, take}
use Rattle.scc_core.specs.declared.places.NameStep.TheVariants.{Index}
use Rattle.scc_core_look.proofs.rows.index_steps.Given as goal

abbrev pub invariant-loop-i : goal.invariant-loop-i
invariant-loop-i l = l.found.items ≡ l.initial.found.items ++ map Index (take l.i-index l.indices)
