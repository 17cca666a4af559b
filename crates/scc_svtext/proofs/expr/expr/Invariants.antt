use Rattle.std.proofs.Common.{◌≡◌, ◌++◌, ◌+◌, ◌*◌, length}
use Rattle.scc_svtext.specs.Pending.{pending}
use Rattle.scc_svtext.proofs.expr.expr.Given as goal

abbrev pub invariant-loop-part : goal.invariant-loop-part
invariant-loop-part l = l.out ++ pending l.names l.parts.items ≡ l.initial.out ++ pending l.names l.initial.parts.items

abbrev pub decreases-loop-part : goal.decreases-loop-part
decreases-loop-part l = 8 * length (pending l.names l.parts.items) + length l.parts.items
