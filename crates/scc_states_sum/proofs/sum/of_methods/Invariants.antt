use Rattle.std.proofs.Common.{◌≡◌, ◌≤◌, map, take}
use Rattle.scc_states_sum.specs.Told.{numbers_in}
use Rattle.scc_states_sum.specs.Elements.{cut, total}
use Rattle.scc_states_sum.specs.Live.{method_elements, processes_deep, most_deep}
use Rattle.scc_states_sum.proofs.sum.of_methods.Given as goal

abbrev pub invariant-loop-process : goal.invariant-loop-process
invariant-loop-process l = processes_deep l.processes ≤ most_deep
    → l.all ≡ cut (total (map (method_elements (numbers_in l.known)) (take l.process-index l.processes)))
