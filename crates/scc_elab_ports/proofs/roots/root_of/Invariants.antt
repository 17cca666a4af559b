use Rattle.std.proofs.Common.{◌≡◌, ◌-◌, length}
use Rattle.scc_elab_spec.specs.After.{root_from}
use Rattle.scc_elab_spec.specs.Binding.{path_of}
use Rattle.scc_elab_grown.specs.Grown.{grown_of}
use Rattle.scc_elab_ports.proofs.roots.root_of.Given as goal

abbrev pub invariant-loop : goal.invariant-loop
invariant-loop l = root_from (grown_of l.g) (length (path_of (grown_of l.g) l.number) - l.counter) l.at ≡ root_from (grown_of l.g) (length (path_of (grown_of l.g) l.number)) l.number
