use Rattle.std.proofs.Common.{◌≡◌, ◌++◌, map, drop}
use Rattle.scc_svread_written.specs.Resolved.{declared, named, variable_of, with_names}
use Rattle.scc_svread.proofs.module.declare_items.Given as goal

abbrev pub invariant-loop-i : goal.invariant-loop-i
invariant-loop-i l = (l.d.vars ++ map variable_of (declared (drop l.i-index l.list)) ≡ l.initial.d.vars ++ map variable_of (declared l.list)) × (with_names l.d.names (named (declared (drop l.i-index l.list))) ≡ with_names l.initial.d.names (named (declared l.list)))
