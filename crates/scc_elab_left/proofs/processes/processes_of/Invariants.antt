use Rattle.std.proofs.Common.{◌≡◌, map, take}
use Rattle.scc_elab_grown.specs.Grown.{grown_of}
use Rattle.scc_elab_grown.specs.Records.{record_of}
use Rattle.scc_elab_spec.specs.Elaborated.{process_left}
use Rattle.scc_plain_view.specs.Designs.{process_of}
use Rattle.scc_elab_left.proofs.processes.processes_of.Given as goal

abbrev pub invariant-loop-r : goal.invariant-loop-r
invariant-loop-r l = map process_of l.list ≡ map (process_left (grown_of l.g)) (map record_of (take l.r-index l.g.records))
