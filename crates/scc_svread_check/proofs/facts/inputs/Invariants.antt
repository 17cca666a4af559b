use Rattle.std.proofs.Common.{◌≡◌, map, drop}
use Rattle.scc_svread_check.specs.Mentioned.{each}
use Rattle.scc_svread_check.specs.Drivers.{input_of}
use Rattle.scc_svread_check.proofs.facts.inputs.Given as goal

abbrev pub invariant-loop-v : goal.invariant-loop-v
invariant-loop-v l = each (map input_of (drop l.v-index l.list)) l.found ≡ each (map input_of l.list) l.initial.found
