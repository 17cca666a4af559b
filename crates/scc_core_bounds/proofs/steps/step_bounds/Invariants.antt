use Rattle.std.proofs.Common.{◌≡◌, map, take}
use Rattle.scc_core_bounds.specs.Bounds.{steps_of}
use Rattle.scc_core_bounds.proofs.steps.step_bounds.Given as goal

abbrev pub invariant-loop-process : goal.invariant-loop-process
invariant-loop-process l = l.bounds.items ≡ map steps_of (take l.process-index l.process-items)
