use Rattle.std.proofs.Common.{◌≡◌, drop, map}
use Rattle.scc_core_spec.specs.First.{first_numbered}
use Rattle.scc_elab_spec.specs.After.{unbound}
use Rattle.scc_elab_grown.specs.Grown.{grown_of}
use Rattle.scc_elab_ports.specs.Unbound.{unbound_at}
use Rattle.scc_elab_ports.proofs.unbound.check_ports.Given as goal

abbrev pub invariant-loop-number : goal.invariant-loop-number
invariant-loop-number l = unbound (grown_of l.g) ≡ first_numbered (unbound_at (grown_of l.g)) l.number (drop l.number (grown_of l.g).objects)
