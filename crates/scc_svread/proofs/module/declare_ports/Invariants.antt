use Rattle.std.proofs.Common.{◌≡◌, ◌++◌, map, drop}
use Rattle.scc_svread_written.specs.Resolved.{named, variable_of, with_names}
use Rattle.scc_svread.proofs.module.declare_ports.Given as goal

abbrev pub invariant-loop-v : goal.invariant-loop-v
invariant-loop-v l = (l.d.vars ++ map variable_of (drop l.v-index l.list) ≡ l.initial.d.vars ++ map variable_of l.list) × (with_names l.d.names (named (drop l.v-index l.list)) ≡ with_names l.initial.d.names (named l.list))
