use Rattle.std.proofs.Common.{◌≡◌, drop, map}
use Rattle.scc_core_spec.specs.First.{first_numbered}
use Rattle.scc_elab_spec.specs.After.{bad_reset}
use Rattle.scc_elab_grown.specs.Grown.{grown_of}
use Rattle.scc_elab_grown.specs.Records.{record_of, reset_of}
use Rattle.scc_elab_after.proofs.processes.check_resets.Given as goal

abbrev pub invariant-loop-k : goal.invariant-loop-k
invariant-loop-k l = first_numbered (bad_reset (grown_of l.g) (record_of l.r)) 0 (map reset_of l.r.resets.items) ≡ first_numbered (bad_reset (grown_of l.g) (record_of l.r)) l.k (drop l.k (map reset_of l.r.resets.items))
