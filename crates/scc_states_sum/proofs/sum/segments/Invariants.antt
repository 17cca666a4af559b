use Rattle.std.proofs.Common.{◌≡◌, map, take}
use Rattle.scc_states_sum.specs.Told.{numbers_in}
use Rattle.scc_states_sum.specs.Elements.{cut, total}
use Rattle.scc_states_sum.specs.Live.{segment_elements}
use Rattle.scc_states_sum.proofs.sum.segments.Given as goal

abbrev pub invariant-loop-list : goal.invariant-loop-list
invariant-loop-list l = l.all ≡ cut (total (map (segment_elements (numbers_in l.known)) (take l.list-index l.lists)))
