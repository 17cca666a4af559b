-- A literal is sound: the premise of the laws has a value.
use Rattle.std.proofs.Common.{◌≡◌, ℕ, ◌<◌, ◌^◌, nat_lt, Bool, true, false, ◌&&◌, if◌then◌else◌, Option, Some, None, sym, ◌∙◌, ap, subst}
use Rattle.scc_bits_kinds.specs.declared.kind.Kind.{Kind}
use Rattle.scc_bits_kinds.specs.declared.kind.Word.{Word}
use Rattle.scc_bits_kinds.specs.Kinds.{IsValid, width_of}
use Rattle.scc_bits.specs.Value.{Number}
use Rattle.scc_core.specs.declared.expr.CoreBase.{CoreBase, fold-CoreBase}
use Rattle.scc_core.specs.declared.expr.CoreExpr.{CoreExpr, fold-roll-CoreExpr}
use Rattle.scc_core.specs.declared.expr.CoreExprNode.{CoreExprNode, out-CoreExprNode, fold-CoreExprNode, map-CoreExprNode, fold_out-CoreExprNode}
use Rattle.scc_core.specs.declared.expr.CoreLeft.{CoreLeft}
use Rattle.scc_core.specs.declared.expr.CorePart.{CorePart}
use Rattle.scc_core.specs.declared.expr.CorePick.{CorePick}
use Rattle.scc_core.specs.declared.expr.CoreBase.TheOpen.{CoreExprNode-F}
use Rattle.scc_core.specs.declared.expr.CoreBase.TheOpen as tree
use Rattle.scc_core.specs.Elements.{Facts, Part}
use Rattle.scc_core.specs.Known.{facts_in}
use Rattle.scc_core.specs.Numbers.{is_valid, valued}
use Rattle.scc_core.specs.Statics.{Base, Node, Pick, Expr, Left, base_node, expr_node, part_node, pick_node, expr_step, left_step, value_in, left_value, part_in, pick_in}
use Rattle.scc_core_spec.specs.Term.{Term, kind_of}
use Rattle.scc_core_spec.specs.Term as core
use Rattle.scc_core_view.specs.Terms.{term_of}
use Rattle.scc_blocks_spec.specs.Shown.{Sight}
use Rattle.scc_lower_laws.specs.Lowers.{Knows}
use Rattle.scc_lower_laws.proofs.Options.{some_same}
use Rattle.scc_lower_tree_laws.specs.Sound.{Layer, Under, converted, operand, second, test, yes, no, of, at, joined, within, itself, deeper, IsFine, IsNode, IsSound, read_in}
use Rattle.scc_lower_tree_laws.specs.States.{Given}
use Rattle.scc_lower_tree_laws.proofs.Expressions.{term_out}

-- nothing stands under a literal
nothing_under : (P : Type 0) (e f : CoreExpr) (w : Word) → out-CoreExprNode e.node ≡ tree.Lit w → Under e f → P
nothing_under P e _ w q (converted f r) = absurd (cc)
nothing_under P e _ w q (operand o f g r) = absurd (cc)
nothing_under P e _ w q (second o g f r) = absurd (cc)
nothing_under P e _ w q (test f g h r) = absurd (cc)
nothing_under P e _ w q (yes g f h r) = absurd (cc)
nothing_under P e _ w q (no g h f r) = absurd (cc)
nothing_under P e _ w q (of f p r) = absurd (cc)
nothing_under P e _ w q (at g f p j r s) = absurd (cc)
nothing_under P e _ w q (joined n f fs r s) = absurd (cc)
nothing_under P e _ w q (within l f r b) = let z : ◌≡◌ {A = Option CoreLeft} None (Some l) = sym (ap read_in q) ∙ r in absurd (cc)

module _ (g : Facts) where
  abbrev base_in : CoreBase → Base
  base_in = fold-CoreBase Base Node Part Pick Expr Left (base_node g) expr_node part_node pick_node expr_step left_step

  abbrev node_in : CoreExprNode → Node
  node_in = fold-CoreExprNode Base Node Part Pick Expr Left (base_node g) expr_node part_node pick_node expr_step left_step

  abbrev valued_layer : Layer → CoreExprNode-F Base Node Part Pick Expr Left
  valued_layer = map-CoreExprNode CoreBase CoreExprNode CorePart CorePick CoreExpr CoreLeft Base Node Part Pick Expr Left base_in node_in (part_in g) (pick_in g) (value_in g) (left_value g)

  literal_value : (e : CoreExpr) (w : Word) → out-CoreExprNode e.node ≡ tree.Lit w → value_in g e ≡ valued e.kind w.bits
  literal_value e w q =
      fold-roll-CoreExpr Base Node Part Pick Expr Left (base_node g) expr_node part_node pick_node expr_step left_step (record { place = e.place; kind = e.kind; node = e.node })
      ∙ ap (λ n. n e.kind) (fold_out-CoreExprNode Base Node Part Pick Expr Left (base_node g) expr_node part_node pick_node expr_step left_step e.node)
      ∙ ap (λ y. expr_node (valued_layer y) e.kind) q

number_is : (k : Kind) (x : ℕ) (n : Number) → valued k x ≡ Some n → (n.kind ≡ k) × (n.word ≡ x)
unfolding valued
number_is k x n = by (is_valid k && nat_lt x (2 ^ width_of k))
  where
    by : (b : Bool) → ◌≡◌ {A = Option Number} (if b then Some (record { kind = k; word = x }) else None) (Some n) → (n.kind ≡ k) × (n.word ≡ x)
    by true e = let m = some_same e in (ap (λ z. z.kind) (sym m), ap (λ z. z.word) (sym m))
    by false e = absurd (cc)

pub sound-literal : (g : Given) (s : Sight) (e : CoreExpr) (w : Word) → out-CoreExprNode e.node ≡ tree.Lit w → IsValid e.kind → w.bits < 2 ^ width_of e.kind → IsSound g s e
sound-literal g s e w q v small _ (deeper _ f h u r) = nothing_under (IsFine g s h) e f w q u
sound-literal g s e w q v small _ (itself _) =
    let is : term_of e ≡ core.Literal e.place e.kind w.bits = term_out e (tree.Lit w) q in
    let P : Layer → Type 0 = λ y. IsNode g s e.kind y in
    record {
      kind = ap kind_of is;
      valid = v;
      node = subst P (sym q) small;
      value = λ n h. (
          let m = number_is e.kind w.bits n (sym (literal_value (facts_in g.known) e w q) ∙ h) in
          let K : Term → Type 0 = λ t. Knows s t n.word in
          let L : ℕ → Type 0 = λ x. x < 2 ^ width_of e.kind in
          (m.0, subst K (sym is) (record { fits = subst L (sym m.1) small; is = λ a x u f h d. sym (some_same d) ∙ sym m.1 })));
    }
