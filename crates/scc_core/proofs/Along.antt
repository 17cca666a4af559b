-- Along first operands.
use Rattle.std.proofs.Common.{◌≡◌, refl, ℕ, zero, suc, ◌+◌, ap, sym, ◌∙◌, Some, None, unwrap_or, add-one, ◌-◌, ◌≤◌, arith, option_and_then}
use Rattle.scc_bits_kinds.specs.declared.kind.Kind.{Kind}
use Rattle.scc_core.specs.declared.expr.CoreBase.{CoreBase, fold-CoreBase}
use Rattle.scc_core.specs.declared.expr.CoreExpr.{CoreExpr, fold-roll-CoreExpr}
use Rattle.scc_core.specs.declared.expr.CoreExprNode.{CoreExprNode, out-CoreExprNode, fold-CoreExprNode, map-CoreExprNode, fold_out-CoreExprNode}
use Rattle.scc_core.specs.declared.expr.CoreLeft.{CoreLeft}
use Rattle.scc_core.specs.declared.expr.CorePart.{CorePart}
use Rattle.scc_core.specs.declared.expr.CorePick.{CorePick}
use Rattle.scc_core.specs.declared.expr.CoreBase.TheOpen.{CoreExprNode-F}
use Rattle.scc_core.specs.declared.expr.CoreBase.TheOpen as tree
use Rattle.scc_bits.specs.Value.{Number}
use Rattle.scc_core.specs.Numbers.{stored_in}
use Rattle.scc_core.specs.Operands.{first_in, first_of, inner, operand}
use Rattle.scc_core.specs.Elements.{Facts, Part}
use Rattle.scc_core.specs.Statics.{Base, Node, Pick, Expr, Left, base_node, expr_node, part_node, pick_node, expr_step, left_step, value_in, left_value, part_in, pick_in, operated, chosen}

operand_suc : (n : ℕ) (e : CoreExpr) → operand (suc n) e ≡ inner (operand n e)
operand_suc zero e = refl
operand_suc (suc n) e = operand_suc n (inner e)

one_down : (n : ℕ) (e : CoreExpr) → inner (operand n e) ≡ operand (n + 1) e
one_down n e = sym (operand_suc n e) ∙ ap (λ k. operand k e) (sym (add-one n))

pub step_down : (n : ℕ) (e here x : CoreExpr) → here ≡ operand n e → Some x ≡ first_of here → x ≡ operand (n + 1) e
step_down n e here x h f = ap (λ o. unwrap_or o here) f ∙ ap inner h ∙ one_down n e

pub stay_down : (n : ℕ) (e here : CoreExpr) → here ≡ operand n e → None ≡ first_of here → here ≡ operand (n + 1) e
stay_down n e here h f = ap (λ o. unwrap_or o here) f ∙ ap inner h ∙ one_down n e

-- so many levels and so many more
further_down : (a b : ℕ) (e : CoreExpr) → operand a (operand b e) ≡ operand (a + b) e
further_down a zero e = let p : a ≡ a + 0 = omega arith in ap (λ k. operand k e) p
further_down a (suc b) e = let p : suc (a + b) ≡ a + suc b = omega arith in further_down a b (inner e) ∙ ap (λ k. operand k e) p

parts_down : (n half : ℕ) (e : CoreExpr) → half ≤ n → operand (n - half) (operand half e) ≡ operand n e
parts_down n half e h = let p : (n - half) + half ≡ n = omega arith in further_down (n - half) half e ∙ ap (λ k. operand k e) p

-- what an expression and its node are worth
abbrev Layer : Type 0
Layer = CoreExprNode-F CoreBase CoreExprNode CorePart CorePick CoreExpr CoreLeft

module _ (g : Facts) where
  abbrev base_in : CoreBase → Base
  base_in = fold-CoreBase Base Node Part Pick Expr Left (base_node g) expr_node part_node pick_node expr_step left_step

  abbrev node_in : CoreExprNode → Node
  node_in = fold-CoreExprNode Base Node Part Pick Expr Left (base_node g) expr_node part_node pick_node expr_step left_step

  abbrev valued_layer : Layer → CoreExprNode-F Base Node Part Pick Expr Left
  valued_layer = map-CoreExprNode CoreBase CoreExprNode CorePart CorePick CoreExpr CoreLeft Base Node Part Pick Expr Left base_in node_in (part_in g) (pick_in g) (value_in g) (left_value g)

  value_out : (e : CoreExpr) → value_in g e ≡ expr_node (valued_layer (out-CoreExprNode e.node)) e.kind
  value_out e =
      fold-roll-CoreExpr Base Node Part Pick Expr Left (base_node g) expr_node part_node pick_node expr_step left_step (record { place = e.place; kind = e.kind; node = e.node })
      ∙ ap (λ n. n e.kind) (fold_out-CoreExprNode Base Node Part Pick Expr Left (base_node g) expr_node part_node pick_node expr_step left_step e.node)

  none_layer : (y : Layer) (k : Kind) (e : CoreExpr) → value_in g (unwrap_or (first_in y) e) ≡ None → value_in g e ≡ expr_node (valued_layer y) k → value_in g e ≡ None
  none_layer (tree.Lit w) k e h q = h
  none_layer (tree.Load l) k e h q = h
  none_layer (tree.Read l) k e h q = h
  none_layer (tree.Convert a) k e h q = q ∙ ap (λ o. option_and_then (stored_in k) o) h
  none_layer (tree.Operate o a None) k e h q = q ∙ ap (λ z. option_and_then (λ x. operated k o x None) z) h
  none_layer (tree.Operate o a (Some b)) k e h q = q ∙ ap (λ z. option_and_then (λ x. operated k o x (Some (value_in g b))) z) h
  none_layer (tree.Choose t a b) k e h q = q ∙ ap (λ o. option_and_then (λ x. option_and_then (λ y. option_and_then (λ z. chosen k x y z) (value_in g b)) (value_in g a)) o) h
  none_layer (tree.Pick a p) k e h q = q ∙ ap (λ o. option_and_then (λ x. pick_in g p x k) o) h
  none_layer (tree.Join parts) k e h q = h

  none_above : (e : CoreExpr) → value_in g (inner e) ≡ None → value_in g e ≡ None
  none_above e h = none_layer (out-CoreExprNode e.node) e.kind e h (value_out e)

  -- an expression has no value where an operand down along the first ones has none
  none_up : (n : ℕ) (e : CoreExpr) → value_in g (operand n e) ≡ None → value_in g e ≡ None
  none_up zero e h = h
  none_up (suc n) e h = none_above e (none_up n (inner e) h)

  pub none_over : (n : ℕ) (e x : CoreExpr) → x ≡ operand n e → None ≡ value_in g x → None ≡ value_in g e
  none_over n e x h v = sym (none_up n e (ap (λ y. value_in g y) (sym h) ∙ sym v))

  pub some_over : (n : ℕ) (e x : CoreExpr) (v : Number) → x ≡ operand n e → Some v ≡ value_in g x → value_in g (operand n e) ≡ Some v
  some_over n e x v h w = ap (λ y. value_in g y) (sym h) ∙ sym w

  pub half_over : (n half : ℕ) (e x : CoreExpr) (v : Number) → half ≤ n → x ≡ operand half e → value_in g (operand n e) ≡ Some v → value_in g (operand (n - half) x) ≡ Some v
  half_over n half e x v l h w = ap (λ y. value_in g (operand (n - half) y)) h ∙ ap (λ y. value_in g y) (parts_down n half e l) ∙ w
