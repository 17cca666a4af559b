-- What terms stand for trees, node by node.
use Rattle.std.proofs.Common.{◌≡◌, ap, ◌∙◌}
use Rattle.scc_base.specs.declared.refusal.Place.{Place}
use Rattle.scc_bits_kinds.specs.declared.kind.Kind.{Kind}
use Rattle.scc_core.specs.declared.expr.CoreExpr.{CoreExpr, fold-roll-CoreExpr}
use Rattle.scc_core.specs.declared.expr.CoreExprNode.{CoreExprNode, roll-CoreExprNode, map-CoreExprNode, fold-CoreExprNode, fold-roll-CoreExprNode}
use Rattle.scc_core.specs.declared.expr.CoreLeft.{CoreLeft}
use Rattle.scc_core.specs.declared.expr.CoreBase.{CoreBase, fold-CoreBase}
use Rattle.scc_core.specs.declared.expr.CorePart.{CorePart, fold-CorePart}
use Rattle.scc_core.specs.declared.expr.CorePick.{CorePick, fold-CorePick}
use Rattle.scc_core.specs.declared.expr.CoreBase.TheOpen.{CoreExprNode-F}
use Rattle.scc_core_view.specs.Terms.{term_of, taken_of}
use Rattle.scc_core_view.specs.Terms as to
use Rattle.scc_core_view.specs.Whole.{made}
use Rattle.scc_core_spec.specs.Term.{Term, Left}

abbrev pub Layer : Type 0
Layer = CoreExprNode-F CoreBase CoreExprNode CorePart CorePick CoreExpr CoreLeft

abbrev pub term_node : CoreExprNode → to.Node
term_node = fold-CoreExprNode to.Base to.Node (Left → Left) to.Picking Term to.Taken to.base_node to.expr_node to.part_node to.pick_node to.expr_step to.left_step

abbrev pub term_base : CoreBase → to.Base
term_base = fold-CoreBase to.Base to.Node (Left → Left) to.Picking Term to.Taken to.base_node to.expr_node to.part_node to.pick_node to.expr_step to.left_step

abbrev pub term_part : CorePart → Left → Left
term_part = fold-CorePart to.Base to.Node (Left → Left) to.Picking Term to.Taken to.base_node to.expr_node to.part_node to.pick_node to.expr_step to.left_step

abbrev pub term_pick : CorePick → to.Picking
term_pick = fold-CorePick to.Base to.Node (Left → Left) to.Picking Term to.Taken to.base_node to.expr_node to.part_node to.pick_node to.expr_step to.left_step

abbrev pub term_layer : Layer → CoreExprNode-F to.Base to.Node (Left → Left) to.Picking Term to.Taken
term_layer = map-CoreExprNode CoreBase CoreExprNode CorePart CorePick CoreExpr CoreLeft to.Base to.Node (Left → Left) to.Picking Term to.Taken term_base term_node term_part term_pick term_of taken_of

pub term_made : (p : Place) (k : Kind) (x : Layer) → term_of (made p k x) ≡ to.expr_node (term_layer x) p k
term_made p k x =
    fold-roll-CoreExpr to.Base to.Node (Left → Left) to.Picking Term to.Taken to.base_node to.expr_node to.part_node to.pick_node to.expr_step to.left_step (record { place = p; kind = k; node = roll-CoreExprNode x })
    ∙ ap (λ n. n p k) (fold-roll-CoreExprNode to.Base to.Node (Left → Left) to.Picking Term to.Taken to.base_node to.expr_node to.part_node to.pick_node to.expr_step to.left_step x)
