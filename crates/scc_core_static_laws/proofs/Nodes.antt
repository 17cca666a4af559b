-- Static values by what is known of cells, node by node, and copies with counters as literals.
use Rattle.std.proofs.Common.{◌≡◌, refl, ap, ◌∙◌, ℕ, List, [], ◌∷◌, map, Option, Some, None, option_map, option_and_then}
use Rattle.scc_base.specs.declared.refusal.Place.{Place}
use Rattle.scc_base.specs.declared.names.Name.{Name}
use Rattle.scc_bits_kinds.specs.declared.kind.Kind.{Kind}
use Rattle.scc_core.specs.declared.copy.Counter.{Counter}
use Rattle.scc_core.specs.declared.expr.CoreExpr.{CoreExpr, fold-roll-CoreExpr}
use Rattle.scc_core.specs.declared.expr.CoreExprNode.{CoreExprNode, roll-CoreExprNode, map-CoreExprNode, fold-CoreExprNode, fold-roll-CoreExprNode}
use Rattle.scc_core.specs.declared.expr.CoreLeft.{CoreLeft, fold-roll-CoreLeft}
use Rattle.scc_core.specs.declared.expr.CoreBase.{CoreBase, roll-CoreBase, fold-CoreBase, map-CoreBase, fold-roll-CoreBase}
use Rattle.scc_core.specs.declared.expr.CorePart.{CorePart, roll-CorePart, map-CorePart, fold-roll-CorePart}
use Rattle.scc_core.specs.declared.expr.CorePick.{CorePick, roll-CorePick, map-CorePick, fold-roll-CorePick}
use Rattle.scc_core.specs.declared.expr.CoreBase.TheOpen.{CoreBase-F, CoreExprNode-F, CorePart-F, CorePick-F}
use Rattle.scc_core.specs.Elements.{Facts, Part}
use Rattle.scc_core.specs.Statics as of
use Rattle.scc_core.specs.Statics.{left_value, part_in, pick_in, value_in}
use Rattle.scc_core.specs.Counters as with
use Rattle.scc_core_view.specs.Whole.{location, made}

abbrev pub Layer : Type 0
Layer = CoreExprNode-F CoreBase CoreExprNode CorePart CorePick CoreExpr CoreLeft

-- ---- values

module _ (g : Facts) where
  abbrev pub node_in : CoreExprNode → of.Node
  node_in = fold-CoreExprNode of.Base of.Node Part of.Pick of.Expr of.Left (of.base_node g) of.expr_node of.part_node of.pick_node of.expr_step of.left_step

  abbrev pub base_in : CoreBase → of.Base
  base_in = fold-CoreBase of.Base of.Node Part of.Pick of.Expr of.Left (of.base_node g) of.expr_node of.part_node of.pick_node of.expr_step of.left_step

  abbrev pub layer_in : Layer → CoreExprNode-F of.Base of.Node Part of.Pick of.Expr of.Left
  layer_in = map-CoreExprNode CoreBase CoreExprNode CorePart CorePick CoreExpr CoreLeft of.Base of.Node Part of.Pick of.Expr of.Left base_in node_in (part_in g) (pick_in g) (value_in g) (left_value g)

  pub value_made : (p : Place) (k : Kind) (x : Layer) → value_in g (made p k x) ≡ of.expr_node (layer_in x) k
  value_made p k x =
      fold-roll-CoreExpr of.Base of.Node Part of.Pick of.Expr of.Left (of.base_node g) of.expr_node of.part_node of.pick_node of.expr_step of.left_step (record { place = p; kind = k; node = roll-CoreExprNode x })
      ∙ ap (λ n. n k) (fold-roll-CoreExprNode of.Base of.Node Part of.Pick of.Expr of.Left (of.base_node g) of.expr_node of.part_node of.pick_node of.expr_step of.left_step x)

  pub left_made : (p : Place) (b : CoreBase) (ps : List CorePart) (q : Option CorePick) (k : Kind)
      → left_value g (location p b ps q) k ≡ option_and_then (of.picked (option_map (pick_in g) q) k) (base_in b (map (part_in g) ps))
  left_made p b ps None k = ap (λ f. f k) (fold-roll-CoreLeft of.Base of.Node Part of.Pick of.Expr of.Left (of.base_node g) of.expr_node of.part_node of.pick_node of.expr_step of.left_step (record { place = p; base = b; parts = ps; pick = None }))
  left_made p b ps (Some q) k = ap (λ f. f k) (fold-roll-CoreLeft of.Base of.Node Part of.Pick of.Expr of.Left (of.base_node g) of.expr_node of.part_node of.pick_node of.expr_step of.left_step (record { place = p; base = b; parts = ps; pick = Some q }))

  pub base_made : (x : CoreBase-F CoreBase CoreExprNode CorePart CorePick CoreExpr CoreLeft)
      → base_in (roll-CoreBase x) ≡ of.base_node g (map-CoreBase CoreBase CoreExprNode CorePart CorePick CoreExpr CoreLeft of.Base of.Node Part of.Pick of.Expr of.Left base_in node_in (part_in g) (pick_in g) (value_in g) (left_value g) x)
  base_made x = fold-roll-CoreBase of.Base of.Node Part of.Pick of.Expr of.Left (of.base_node g) of.expr_node of.part_node of.pick_node of.expr_step of.left_step x

  pub part_made : (x : CorePart-F CoreBase CoreExprNode CorePart CorePick CoreExpr CoreLeft)
      → part_in g (roll-CorePart x) ≡ of.part_node (map-CorePart CoreBase CoreExprNode CorePart CorePick CoreExpr CoreLeft of.Base of.Node Part of.Pick of.Expr of.Left base_in node_in (part_in g) (pick_in g) (value_in g) (left_value g) x)
  part_made x = fold-roll-CorePart of.Base of.Node Part of.Pick of.Expr of.Left (of.base_node g) of.expr_node of.part_node of.pick_node of.expr_step of.left_step x

  pub pick_made : (x : CorePick-F CoreBase CoreExprNode CorePart CorePick CoreExpr CoreLeft)
      → pick_in g (roll-CorePick x) ≡ of.pick_node (map-CorePick CoreBase CoreExprNode CorePart CorePick CoreExpr CoreLeft of.Base of.Node Part of.Pick of.Expr of.Left base_in node_in (part_in g) (pick_in g) (value_in g) (left_value g) x)
  pick_made x = fold-roll-CorePick of.Base of.Node Part of.Pick of.Expr of.Left (of.base_node g) of.expr_node of.part_node of.pick_node of.expr_step of.left_step x

-- ---- copies

module _ (ns : List Counter) where
  abbrev pub base_copied : CoreBase → CoreBase
  base_copied = fold-CoreBase CoreBase with.Node CorePart CorePick CoreExpr CoreLeft with.base_node (with.expr_node ns) with.part_node with.pick_node with.expr_step with.left_step

  abbrev pub node_copied : CoreExprNode → with.Node
  node_copied = fold-CoreExprNode CoreBase with.Node CorePart CorePick CoreExpr CoreLeft with.base_node (with.expr_node ns) with.part_node with.pick_node with.expr_step with.left_step

  abbrev pub layer_copied : Layer → CoreExprNode-F CoreBase with.Node CorePart CorePick CoreExpr CoreLeft
  layer_copied = map-CoreExprNode CoreBase CoreExprNode CorePart CorePick CoreExpr CoreLeft CoreBase with.Node CorePart CorePick CoreExpr CoreLeft base_copied node_copied (with.counted_part ns) (with.counted_pick ns) (with.counted ns) (with.counted_left ns)

  pub expr_copy : (p : Place) (k : Kind) (x : Layer) → with.counted ns (made p k x) ≡ with.expr_node ns (layer_copied x) p k
  expr_copy p k x =
      fold-roll-CoreExpr CoreBase with.Node CorePart CorePick CoreExpr CoreLeft with.base_node (with.expr_node ns) with.part_node with.pick_node with.expr_step with.left_step (record { place = p; kind = k; node = roll-CoreExprNode x })
      ∙ ap (λ n. n p k) (fold-roll-CoreExprNode CoreBase with.Node CorePart CorePick CoreExpr CoreLeft with.base_node (with.expr_node ns) with.part_node with.pick_node with.expr_step with.left_step x)

  pub left_copy : (p : Place) (b : CoreBase) (ps : List CorePart) (q : Option CorePick)
      → with.counted_left ns (location p b ps q) ≡ location p (base_copied b) (map (with.counted_part ns) ps) (option_map (with.counted_pick ns) q)
  left_copy p b ps None = fold-roll-CoreLeft CoreBase with.Node CorePart CorePick CoreExpr CoreLeft with.base_node (with.expr_node ns) with.part_node with.pick_node with.expr_step with.left_step (record { place = p; base = b; parts = ps; pick = None })
  left_copy p b ps (Some q) = fold-roll-CoreLeft CoreBase with.Node CorePart CorePick CoreExpr CoreLeft with.base_node (with.expr_node ns) with.part_node with.pick_node with.expr_step with.left_step (record { place = p; base = b; parts = ps; pick = Some q })

  pub base_copy : (x : CoreBase-F CoreBase CoreExprNode CorePart CorePick CoreExpr CoreLeft)
      → base_copied (roll-CoreBase x)
      ≡ with.base_node (map-CoreBase CoreBase CoreExprNode CorePart CorePick CoreExpr CoreLeft CoreBase with.Node CorePart CorePick CoreExpr CoreLeft base_copied node_copied (with.counted_part ns) (with.counted_pick ns) (with.counted ns) (with.counted_left ns) x)
  base_copy x = fold-roll-CoreBase CoreBase with.Node CorePart CorePick CoreExpr CoreLeft with.base_node (with.expr_node ns) with.part_node with.pick_node with.expr_step with.left_step x

  pub part_copy : (x : CorePart-F CoreBase CoreExprNode CorePart CorePick CoreExpr CoreLeft)
      → with.counted_part ns (roll-CorePart x)
      ≡ with.part_node (map-CorePart CoreBase CoreExprNode CorePart CorePick CoreExpr CoreLeft CoreBase with.Node CorePart CorePick CoreExpr CoreLeft base_copied node_copied (with.counted_part ns) (with.counted_pick ns) (with.counted ns) (with.counted_left ns) x)
  part_copy x = fold-roll-CorePart CoreBase with.Node CorePart CorePick CoreExpr CoreLeft with.base_node (with.expr_node ns) with.part_node with.pick_node with.expr_step with.left_step x

  pub pick_copy : (x : CorePick-F CoreBase CoreExprNode CorePart CorePick CoreExpr CoreLeft)
      → with.counted_pick ns (roll-CorePick x)
      ≡ with.pick_node (map-CorePick CoreBase CoreExprNode CorePart CorePick CoreExpr CoreLeft CoreBase with.Node CorePart CorePick CoreExpr CoreLeft base_copied node_copied (with.counted_part ns) (with.counted_pick ns) (with.counted ns) (with.counted_left ns) x)
  pick_copy x = fold-roll-CorePick CoreBase with.Node CorePart CorePick CoreExpr CoreLeft with.base_node (with.expr_node ns) with.part_node with.pick_node with.expr_step with.left_step x
