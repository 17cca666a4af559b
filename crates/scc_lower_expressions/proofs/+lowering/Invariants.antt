use Rattle.std.proofs.Common.{◌≡◌, ◌+◌, ◌*◌, List, length, map, take}
use Rattle.scc_core.specs.declared.expr.CoreExpr.{CoreExpr}
use Rattle.scc_svtree.specs.Term.{term_of}
use Rattle.scc_lower_laws.specs.Joins.{texts}
use Rattle.scc_lower_laws.specs.Outcome.{Outcome}
use Rattle.scc_lower_tree_laws.specs.Becoming.{Becomes}
use Rattle.scc_lower_tree_laws.specs.Finding.{LoweringAll, Opening}
use Rattle.scc_lower_expressions.specs.Becoming.{IsPath, chosen_of, given_of, opened_of, outcome_of, state_of}
use Rattle.scc_lower_expressions.proofs.+lowering.Given as goal

abbrev pub decreases-expr::lowered : goal.decreases-expr::lowered
decreases-expr::lowered c = 10 * c.levels + 0

abbrev pub decreases-index::indexed : goal.decreases-index::indexed
decreases-index::indexed c = 10 * c.levels + 1

abbrev pub decreases-expr::joined : goal.decreases-expr::joined
decreases-expr::joined c = 10 * c.levels + 1

abbrev pub decreases-expr::bit_at : goal.decreases-expr::bit_at
decreases-expr::bit_at c = 10 * c.levels + 2

abbrev pub decreases-index::opened : goal.decreases-index::opened
decreases-index::opened c = 10 * c.levels + 2

abbrev pub decreases-expr::text : goal.decreases-expr::text
decreases-expr::text c = 10 * c.levels + 7

abbrev pub decreases-expr::read_found : goal.decreases-expr::read_found
decreases-expr::read_found c = 10 * c.levels + 4

abbrev pub decreases-expr::read : goal.decreases-expr::read
decreases-expr::read c = 10 * c.levels + 5

abbrev pub decreases-expr::pick_of : goal.decreases-expr::pick_of
decreases-expr::pick_of c = 10 * c.levels + 6

abbrev pub decreases-expr::leaf : goal.decreases-expr::leaf
decreases-expr::leaf c = 10 * c.levels + 8

abbrev pub decreases-expr::over : goal.decreases-expr::over
decreases-expr::over c = 10 * c.levels + 2

abbrev pub decreases-expr::lowered-loop-outer : goal.decreases-expr::lowered-loop-outer
decreases-expr::lowered-loop-outer l = length l.chain.items

abbrev pub invariant-expr::lowered-loop-outer : goal.invariant-expr::lowered-loop-outer
invariant-expr::lowered-loop-outer l =
    (z : CoreExpr) × IsPath l.fn.e (map (λ x. x.now) l.chain.items) z × Becomes (given_of l.fn.cells) z (state_of l.fn.cx) (outcome_of l.made) (state_of l.cx)

abbrev pub invariant-expr::joined-loop-part : goal.invariant-expr::joined-loop-part
invariant-expr::joined-loop-part l = (os : List Outcome) × (map term_of l.texts ≡ texts os) × LoweringAll (given_of l.cells) (take l.part-index l.parts) (state_of l.fn.cx) os (state_of l.cx)

abbrev pub invariant-index::opened-loop-dim : goal.invariant-index::opened-loop-dim
invariant-index::opened-loop-dim l = Opening (given_of l.cells) (map chosen_of (take l.dim-index l.dims)) (state_of l.fn.cx) (map opened_of l.opens.items) (state_of l.cx)
