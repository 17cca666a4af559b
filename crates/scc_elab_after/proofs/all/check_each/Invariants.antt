use Rattle.std.proofs.Common.{◌≡◌, drop, map, List}
use Rattle.scc_elab_grown.specs.Grown.{grown_of}
use Rattle.scc_elab_grown.specs.Records.{record_of}
use Rattle.scc_elab_spec.specs.After.{bad_process, Clock}
use Rattle.scc_elab_after.proofs.Walking.{Walks}
use Rattle.scc_elab_after.proofs.all.check_each.Given as goal

abbrev pub invariant-loop-r : goal.invariant-loop-r
invariant-loop-r l = Walks l.many (grown_of l.g) l.initial.firsts.items l.firsts.items (map record_of l.list) (map record_of (drop l.r-index l.list))
