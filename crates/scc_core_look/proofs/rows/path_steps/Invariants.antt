use Rattle.std.proofs.Common.{◌≡◌, ◌++◌, map, take}
use Rattle.scc_core.specs.Names.{step_of}
use Rattle.scc_core_look.proofs.rows.path_steps.Given as goal

abbrev pub invariant-loop-part : goal.invariant-loop-part
invariant-loop-part l = l.found.items ≡ l.initial.found.items ++ map step_of (take l.part-index l.path)
