use Rattle.std.proofs.Common.{◌≡◌, ◌++◌, drop}
use Rattle.scc_svread_check.specs.First.{starts_behind}
use Rattle.scc_svread_check.proofs.first.starts_behind.Given as goal

abbrev pub invariant-loop-i : goal.invariant-loop-i
invariant-loop-i l = l.found ++ starts_behind l.names l.scope (drop l.i-index l.list) l.walk ≡ starts_behind l.initial.names l.scope l.list l.fn.w
