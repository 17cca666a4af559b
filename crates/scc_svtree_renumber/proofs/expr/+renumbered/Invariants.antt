use Rattle.std.proofs.Common.{◌≡◌, true, ◌+◌, ◌*◌, map, take, length}
use Rattle.scc_svtree_renumber.specs.Copies.{IsPath}
use Rattle.scc_svtree_renumber.proofs.expr.+renumbered.Given as goal

abbrev pub decreases-renumbered_expr : goal.decreases-renumbered_expr
decreases-renumbered_expr c = 2 * c.levels

abbrev pub decreases-leaf : goal.decreases-leaf
decreases-leaf c = 2 * c.levels + 1

abbrev pub decreases-over : goal.decreases-over
decreases-over c = 2 * c.levels + 1

abbrev pub invariant-leaf-loop-part : goal.invariant-leaf-loop-part
invariant-leaf-loop-part l = l.ids.same ≡ true → l.list ≡ take l.part-index l.part-items

-- what is made is that of an operand that the rest of the chain leads to
abbrev pub invariant-renumbered_expr-loop-outer : goal.invariant-renumbered_expr-loop-outer
invariant-renumbered_expr-loop-outer l = l.ids.same ≡ true → IsPath l.fn.e (map (λ x. x.now) l.chain.items) l.made

abbrev pub decreases-renumbered_expr-loop-outer : goal.decreases-renumbered_expr-loop-outer
decreases-renumbered_expr-loop-outer l = length l.chain.items
