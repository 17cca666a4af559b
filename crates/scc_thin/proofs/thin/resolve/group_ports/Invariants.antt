use Rattle.std.proofs.Common.{◌≡◌, ◌++◌, map, take}
use Rattle.scc_thin.specs.Resolved.{port_of}
use Rattle.scc_thin.proofs.thin.resolve.group_ports.Given as goal

abbrev pub invariant-loop-name : goal.invariant-loop-name
invariant-loop-name l = l.list ≡ l.initial.list ++ map (port_of l.g.output l.g.width) (take l.name-index l.name-items)
