use Rattle.std.proofs.Common.{◌≡◌, ◌++◌, map, drop}
use Rattle.scc_elab_grown.specs.Grown.{grown_of}
use Rattle.scc_elab_grown.specs.Records.{item_of}
use Rattle.scc_elab_left.specs.Lefts.{all_sensed}
use Rattle.scc_elab_left.proofs.processes.senses_of.Given as goal

abbrev pub invariant-loop-item : goal.invariant-loop-item
invariant-loop-item l = l.list ++ all_sensed (grown_of l.g) (map item_of (drop l.item-index l.items)) ≡ all_sensed (grown_of l.g) (map item_of l.items)
