use Rattle.std.proofs.Common.{◌≡◌, flat_map, take}
use Rattle.scc_thin.specs.Resolved.{group_ports}
use Rattle.scc_thin.proofs.thin.resolve.ports.Given as goal

abbrev pub invariant-loop-g : goal.invariant-loop-g
invariant-loop-g l = l.list ≡ flat_map group_ports (take l.g-index l.groups)
