use Rattle.std.proofs.Common.{take}
use Rattle.scc_elab_grown.specs.Grown.{grown_of}
use Rattle.scc_elab_left.specs.Reached.{Reaches}
use Rattle.scc_elab_left.proofs.reached.reached_in.Given as goal

abbrev pub invariant-loop-number : goal.invariant-loop-number
invariant-loop-number l = Reaches (take l.number (grown_of l.g).objects) l.reached.by_path.entries
