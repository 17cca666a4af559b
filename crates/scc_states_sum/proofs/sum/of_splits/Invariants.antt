use Rattle.std.proofs.Common.{◌≡◌, map, take}
use Rattle.scc_states_sum.specs.Told.{numbers_in}
use Rattle.scc_states_sum.specs.Elements.{cut, total}
use Rattle.scc_states_sum.specs.Live.{split_elements}
use Rattle.scc_states_sum.proofs.sum.of_splits.Given as goal

abbrev pub invariant-loop-split : goal.invariant-loop-split
invariant-loop-split l = l.all ≡ cut (total (map (split_elements (numbers_in l.known)) (take l.split-index l.splits)))
