use Rattle.std.proofs.Common.{◌≡◌, drop, map}
use Rattle.scc_core_spec.specs.First.{first_of}
use Rattle.scc_elab_grown.specs.Records.{item_of}
use Rattle.scc_elab_after.specs.Processes.{unnamed}
use Rattle.scc_elab_after.proofs.processes.check_items.Given as goal

abbrev pub invariant-loop-i : goal.invariant-loop-i
invariant-loop-i l = first_of unnamed (map item_of l.items) ≡ first_of unnamed (map item_of (drop l.i-index l.items))
