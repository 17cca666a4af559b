use Rattle.std.proofs.Common.{◌≡◌, map, take}
use Rattle.scc_states_sum.specs.Told.{numbers_in}
use Rattle.scc_states_sum.specs.Elements.{cut, total}
use Rattle.scc_states_sum.specs.Live.{segment_statement}
use Rattle.scc_states_sum.proofs.sum.+segment_sum.Given as goal

abbrev pub invariant-segment-loop-s : goal.invariant-segment-loop-s
invariant-segment-loop-s l = l.all ≡ cut (total (map (segment_statement (numbers_in l.known)) (take l.s-index l.list)))
