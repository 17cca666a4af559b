-- What stands at the end of an expression.
use Rattle.std.specs.Prelude.{◌≡◌, ℕ, List, [], ◌∷◌, ◌++◌, map, length}
use Rattle.std.proofs.Common.{refl, sym, ◌∙◌, ap, subst}
use Rattle.std.proofs.lemmas.List.{map-append}
use Rattle.scc_base.specs.declared.refusal.Place.{Place}
use Rattle.scc_tree.specs.declared.expr.Expr.{Expr, fold-roll-Expr}
use Rattle.scc_tree.specs.declared.expr.ExprNode.{ExprNode, roll-ExprNode, fold-ExprNode, fold-roll-ExprNode}
use Rattle.scc_tree.specs.declared.expr.ExprNode.TheVariants as variant
use Rattle.scc_tree.specs.declared.expr.ExprNode.TheOpen as layer
use Rattle.scc_tree.specs.declared.expr.Part.{Part}
use Rattle.scc_tree.specs.declared.expr.Link.{Link}
use denote.Hole.Carrier.{roll}
use Rattle.scc_templates_spec.specs.Tree.{Tree, Ty, TyArgs}
use Rattle.scc_templates_spec.specs.View.{Node, PartNode, TyNode, Behind, from_left, of_node, of_part_node, of_arg, of_ty_node, of_expr, of_link, of_part, of_ty, tree_of}
use Rattle.scc_plain_drafts.specs.Flows.{behind_of, link_of, is_index}

abbrev node_of : ExprNode → Node
node_of = fold-ExprNode Node PartNode (TyArgs → TyArgs) TyNode Tree Behind Behind Ty of_node of_part_node of_arg of_ty_node of_expr of_link of_part of_ty

parts_tree : (p : Place) (of : Expr) (parts : List Part) → tree_of (record { place = p; node = variant.Parts of parts }) ≡ from_left p (tree_of of) (map behind_of parts)
unfolding roll-ExprNode roll
parts_tree p of parts =
    fold-roll-Expr Node PartNode (TyArgs → TyArgs) TyNode Tree Behind Behind Ty of_node of_part_node of_arg of_ty_node of_expr of_link of_part of_ty (record { place = p; node = variant.Parts of parts })
    ∙ ap (λ n. node_of n p) (variant.rolls-Parts of parts)
    ∙ ap (λ f. f p) (fold-roll-ExprNode Node PartNode (TyArgs → TyArgs) TyNode Tree Behind Behind Ty of_node of_part_node of_arg of_ty_node of_expr of_link of_part of_ty (layer.Parts of parts))

chain_tree : (p : Place) (first : Expr) (rest : List Link) → tree_of (record { place = p; node = variant.Chain first rest }) ≡ from_left p (tree_of first) (map link_of rest)
unfolding roll-ExprNode roll
chain_tree p first rest =
    fold-roll-Expr Node PartNode (TyArgs → TyArgs) TyNode Tree Behind Behind Ty of_node of_part_node of_arg of_ty_node of_expr of_link of_part of_ty (record { place = p; node = variant.Chain first rest })
    ∙ ap (λ n. node_of n p) (variant.rolls-Chain first rest)
    ∙ ap (λ f. f p) (fold-roll-ExprNode Node PartNode (TyArgs → TyArgs) TyNode Tree Behind Behind Ty of_node of_part_node of_arg of_ty_node of_expr of_link of_part of_ty (layer.Chain first rest))

last_behind : (p : Place) (t : Tree) (fs : List Behind) (f : Behind) → from_left p t (fs ++ f ∷ []) ≡ f p (from_left p t fs)
last_behind p t [] f = refl
last_behind p t (g ∷ gs) f = last_behind p (g p t) gs f

none : {A : Type 0} → (xs : List A) → length xs ≡ 0 → xs ≡ []
none [] e = refl
none (x ∷ xs) e = absurd (cc)

module _ (e : Expr) (node : ExprNode) (at : node ≡ e.node) where
  node_at : (other : ExprNode) → node ≡ other → tree_of e ≡ tree_of (record { place = e.place; node = other })
  node_at other is = ap (λ m. tree_of (record { place = e.place; node = m })) (sym at ∙ is)

  pub ends_in_part : (of : Expr) (parts qs rest : List Part) (x : Part) → node ≡ variant.Parts of parts → qs ≡ parts → qs ≡ rest ++ x ∷ [] → tree_of e ≡ behind_of x e.place (from_left e.place (tree_of of) (map behind_of rest))
  ends_in_part of parts qs rest x is same last = node_at (variant.Parts of parts) is ∙ parts_tree e.place of parts ∙ ap (λ ps. from_left e.place (tree_of of) (map behind_of ps)) (sym same ∙ last)
      ∙ ap (from_left e.place (tree_of of)) (map-append behind_of rest (x ∷ [])) ∙ last_behind e.place (tree_of of) (map behind_of rest) (behind_of x)

  pub no_part : (of : Expr) (parts qs : List Part) → node ≡ variant.Parts of parts → qs ≡ parts → length qs ≡ 0 → tree_of e ≡ tree_of of
  no_part of parts qs is same n = node_at (variant.Parts of parts) is ∙ parts_tree e.place of parts ∙ ap (λ ps. from_left e.place (tree_of of) (map behind_of ps)) (sym same ∙ none qs n)

  pub ends_in_link : (of : Expr) (parts qs rest : List Link) (x : Link) → node ≡ variant.Chain of parts → qs ≡ parts → qs ≡ rest ++ x ∷ [] → tree_of e ≡ link_of x e.place (from_left e.place (tree_of of) (map link_of rest))
  ends_in_link of parts qs rest x is same last = node_at (variant.Chain of parts) is ∙ chain_tree e.place of parts ∙ ap (λ ps. from_left e.place (tree_of of) (map link_of ps)) (sym same ∙ last)
      ∙ ap (from_left e.place (tree_of of)) (map-append link_of rest (x ∷ [])) ∙ last_behind e.place (tree_of of) (map link_of rest) (link_of x)

  pub no_link : (of : Expr) (parts qs : List Link) → node ≡ variant.Chain of parts → qs ≡ parts → length qs ≡ 0 → tree_of e ≡ tree_of of
  no_link of parts qs is same n = node_at (variant.Chain of parts) is ∙ chain_tree e.place of parts ∙ ap (λ ps. from_left e.place (tree_of of) (map link_of ps)) (sym same ∙ none qs n)
