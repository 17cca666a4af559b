use Rattle.std.proofs.Common.{◌≡◌, drop}
use Rattle.scc_svread_check.specs.Within.{own_lines}
use Rattle.scc_svread_check.proofs.within.own_level.Given as goal

abbrev pub invariant-loop-s : goal.invariant-loop-s
invariant-loop-s l = own_lines l.inputs l.taken l.assigned l.whole (drop l.s-index l.list) l.n l.walk ≡ own_lines l.inputs l.taken l.assigned l.initial.whole l.list l.n l.fn.w
