use Rattle.std.proofs.Common.{◌≡◌, drop}
use Rattle.scc_svread_check.specs.First.{names_with}
use Rattle.scc_svread_check.proofs.first.declare_items.Given as goal

abbrev pub invariant-loop-i : goal.invariant-loop-i
invariant-loop-i l = names_with l.names (drop l.i-index l.list) ≡ names_with l.initial.names l.list
