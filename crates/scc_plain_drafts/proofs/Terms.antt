-- The terms of an operator between two operands, and of a concatenation.
use Rattle.std.specs.Prelude.{◌≡◌, Some, List, map}
use Rattle.std.proofs.Common.{◌∙◌, ap}
use Rattle.scc_base.specs.declared.refusal.Place.{Place}
use Rattle.scc_bits_kinds.specs.declared.kind.Kind.{Kind}
use Rattle.scc_bits_kinds.specs.declared.op.Op.{Op}
use Rattle.scc_plain_tree.specs.declared.expr.PlainExpr.{PlainExpr, fold-roll-PlainExpr}
use denote.Hole.Carrier.{roll}
use Rattle.scc_plain_tree.specs.declared.expr.PlainExprNode.{PlainExprNode, roll-PlainExprNode, fold-PlainExprNode, fold-roll-PlainExprNode}
use Rattle.scc_plain_tree.specs.declared.expr.PlainExprNode.TheVariants as variant
use Rattle.scc_plain_tree.specs.declared.expr.PlainBase.TheOpen as tree
use Rattle.scc_elab_spec.specs.Term.{Term, Left, Binary}
use Rattle.scc_plain_view.specs.Terms.{Base, Node, Picking, Taken, base_node, expr_node, part_node, pick_node, expr_step, left_step, joined, term_of}

abbrev of_node : PlainExprNode → Node
of_node = fold-PlainExprNode Base Node (Left → Left) Picking Term Taken base_node expr_node part_node pick_node expr_step left_step

pub binary_term : (p : Place) (k : Kind) (o : Op) (a b : PlainExpr) → term_of (record { place = p; kind = k; node = variant.Operate o a (Some b) }) ≡ Binary p k o (term_of a) (term_of b)
unfolding roll-PlainExprNode roll
binary_term p k o a b =
    fold-roll-PlainExpr Base Node (Left → Left) Picking Term Taken base_node expr_node part_node pick_node expr_step left_step (record { place = p; kind = k; node = variant.Operate o a (Some b) })
    ∙ ap (λ n. of_node n p k) (variant.rolls-Operate o a (Some b))
    ∙ ap (λ f. f p k) (fold-roll-PlainExprNode Base Node (Left → Left) Picking Term Taken base_node expr_node part_node pick_node expr_step left_step (tree.Operate o a (Some b)))

pub join_term : (p : Place) (k : Kind) (parts : List PlainExpr) → term_of (record { place = p; kind = k; node = variant.Join parts }) ≡ joined p k (map term_of parts)
unfolding roll-PlainExprNode roll
join_term p k parts =
    fold-roll-PlainExpr Base Node (Left → Left) Picking Term Taken base_node expr_node part_node pick_node expr_step left_step (record { place = p; kind = k; node = variant.Join parts })
    ∙ ap (λ n. of_node n p k) (variant.rolls-Join parts)
    ∙ ap (λ f. f p k) (fold-roll-PlainExprNode Base Node (Left → Left) Picking Term Taken base_node expr_node part_node pick_node expr_step left_step (tree.Join parts))
