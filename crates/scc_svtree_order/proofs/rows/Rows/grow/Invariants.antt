use Rattle.std.proofs.Common.{◌≡◌, ◌-◌, length}
use Rattle.scc_svtree_order.specs.Fed.{grown}
use Rattle.scc_svtree_order.proofs.rows.Rows.grow.Given as goal

abbrev pub invariant-loop-self : goal.invariant-loop-self
invariant-loop-self l = grown l.n l.self ≡ grown l.n l.initial.self

abbrev pub decreases-loop-self : goal.decreases-loop-self
decreases-loop-self l = l.n - length l.self
