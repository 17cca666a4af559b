-- What trees stand for, part by part.
use Rattle.std.proofs.Common.{◌≡◌, refl, ap, List, map, Option, Some, None}
use Rattle.scc_base.specs.declared.refusal.Place.{Place}
use Rattle.scc_core.specs.declared.expr.CoreExpr.{CoreExpr}
use Rattle.scc_core.specs.declared.expr.CoreExprNode.{CoreExprNode, fold-CoreExprNode}
use Rattle.scc_core.specs.declared.expr.CoreLeft.{CoreLeft, fold-roll-CoreLeft}
use Rattle.scc_core.specs.declared.expr.CoreBase.{CoreBase, roll-CoreBase, map-CoreBase, fold-CoreBase, fold-roll-CoreBase, ind-CoreBase}
use Rattle.scc_core.specs.declared.expr.CorePart.{CorePart, roll-CorePart, map-CorePart, fold-CorePart, fold-roll-CorePart, ind-CorePart}
use Rattle.scc_core.specs.declared.expr.CorePick.{CorePick, fold-CorePick}
use Rattle.scc_core.specs.declared.expr.CoreBase.TheOpen.{CoreBase-F, CorePart-F}
use Rattle.scc_core_view.specs.Terms.{term_of, taken_of}
use Rattle.scc_core_view.specs.Terms as to
use Rattle.scc_core_spec.specs.Term.{Term, Left}

abbrev pub BaseLayer : Type 0
BaseLayer = CoreBase-F CoreBase CoreExprNode CorePart CorePick CoreExpr CoreLeft

abbrev pub PartLayer : Type 0
PartLayer = CorePart-F CoreBase CoreExprNode CorePart CorePick CoreExpr CoreLeft

abbrev pub term_node : CoreExprNode → to.Node
term_node = fold-CoreExprNode to.Base to.Node (Left → Left) to.Picking Term to.Taken to.base_node to.expr_node to.part_node to.pick_node to.expr_step to.left_step

abbrev pub term_base : CoreBase → to.Base
term_base = fold-CoreBase to.Base to.Node (Left → Left) to.Picking Term to.Taken to.base_node to.expr_node to.part_node to.pick_node to.expr_step to.left_step

abbrev pub term_part : CorePart → Left → Left
term_part = fold-CorePart to.Base to.Node (Left → Left) to.Picking Term to.Taken to.base_node to.expr_node to.part_node to.pick_node to.expr_step to.left_step

abbrev pub term_pick : CorePick → to.Picking
term_pick = fold-CorePick to.Base to.Node (Left → Left) to.Picking Term to.Taken to.base_node to.expr_node to.part_node to.pick_node to.expr_step to.left_step

pub base_term : (x : BaseLayer)
    → term_base (roll-CoreBase x)
    ≡ to.base_node (map-CoreBase CoreBase CoreExprNode CorePart CorePick CoreExpr CoreLeft to.Base to.Node (Left → Left) to.Picking Term to.Taken term_base term_node term_part term_pick term_of taken_of x)
base_term x = fold-roll-CoreBase to.Base to.Node (Left → Left) to.Picking Term to.Taken to.base_node to.expr_node to.part_node to.pick_node to.expr_step to.left_step x

pub part_term : (x : PartLayer)
    → term_part (roll-CorePart x)
    ≡ to.part_node (map-CorePart CoreBase CoreExprNode CorePart CorePick CoreExpr CoreLeft to.Base to.Node (Left → Left) to.Picking Term to.Taken term_base term_node term_part term_pick term_of taken_of x)
part_term x = fold-roll-CorePart to.Base to.Node (Left → Left) to.Picking Term to.Taken to.base_node to.expr_node to.part_node to.pick_node to.expr_step to.left_step x

pub left_term : (p : Place) (b : CoreBase) (ps : List CorePart) (q : Option CorePick)
    → (taken_of (record { place = p; base = b; parts = ps; pick = q })).left ≡ to.extended (term_base b p) (map term_part ps)
left_term p b ps None = ap (λ t. t.left) (fold-roll-CoreLeft to.Base to.Node (Left → Left) to.Picking Term to.Taken to.base_node to.expr_node to.part_node to.pick_node to.expr_step to.left_step (record { place = p; base = b; parts = ps; pick = None }))
left_term p b ps (Some q) = ap (λ t. t.left) (fold-roll-CoreLeft to.Base to.Node (Left → Left) to.Picking Term to.Taken to.base_node to.expr_node to.part_node to.pick_node to.expr_step to.left_step (record { place = p; base = b; parts = ps; pick = Some q }))

-- each tree has a shape
pub base_shape : (b : CoreBase) → (x : BaseLayer) × (b ≡ roll-CoreBase x)
base_shape = ind-CoreBase (λ b. (x : BaseLayer) × (b ≡ roll-CoreBase x)) (λ _. Unit {0}) (λ _. Unit {0}) (λ _. Unit {0}) (λ _. Unit {0}) (λ _. Unit {0})
    (λ x y is. (x, refl)) (λ x y is. tt) (λ x y is. tt) (λ x y is. tt) (λ x y is. tt) (λ x y is. tt)

pub part_shape : (c : CorePart) → (x : PartLayer) × (c ≡ roll-CorePart x)
part_shape = ind-CorePart (λ _. Unit {0}) (λ _. Unit {0}) (λ c. (x : PartLayer) × (c ≡ roll-CorePart x)) (λ _. Unit {0}) (λ _. Unit {0}) (λ _. Unit {0})
    (λ x y is. tt) (λ x y is. tt) (λ x y is. (x, refl)) (λ x y is. tt) (λ x y is. tt) (λ x y is. tt)
