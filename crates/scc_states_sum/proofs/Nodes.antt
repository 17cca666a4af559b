-- What is counted in each node of an expression.
use Rattle.std.proofs.Common.{◌≡◌, refl, ap, ◌∙◌, sym, ℕ, ◌+◌, List, [], ◌∷◌, map, Option, Some, None}
use Rattle.scc_base.specs.declared.names.Name.{Name}
use Rattle.scc_bits.specs.declared.Word.{Word}
use Rattle.scc_bits.specs.declared.Op.{Op}
use Rattle.scc_bits.specs.Value.{Number}
use Rattle.scc_core.specs.declared.expr.CoreExpr.{CoreExpr, para-roll-CoreExpr}
use Rattle.scc_core.specs.declared.expr.CoreExprNode.{CoreExprNode, para-CoreExprNode, para-roll-CoreExprNode}
use Rattle.scc_core.specs.declared.expr.CoreExprNode.TheVariants as node
use Rattle.scc_core.specs.declared.expr.CoreLeft.{CoreLeft, para-roll-CoreLeft}
use Rattle.scc_core.specs.declared.expr.CorePart.{CorePart, para-roll-CorePart}
use Rattle.scc_core.specs.declared.expr.CorePart.TheVariants as part
use Rattle.scc_core.specs.declared.expr.CorePick.{CorePick, para-roll-CorePick}
use Rattle.scc_core.specs.declared.expr.CorePick.TheVariants as pick
use Rattle.scc_core.specs.declared.expr.CoreBase.TheOpen as tree
use Rattle.scc_states_sum.specs.Elements.{Part, total, under, optional, in_base, in_node, in_part, in_pick, in_expr, in_left, unknown, expr_elements, left_elements}
use Rattle.scc_states_sum.specs.Elements.{pick_elements, part_of}

node_elements : (CoreExpr → Option Number) → CoreExprNode → ℕ
node_elements known = para-CoreExprNode ℕ ℕ Part ℕ ℕ ℕ in_base in_node (in_part known) in_pick in_expr in_left

expr_is : (known : CoreExpr → Option Number) (e : CoreExpr) → expr_elements known e ≡ node_elements known e.node
unfolding expr_elements node_elements
expr_is known e = para-roll-CoreExpr ℕ ℕ Part ℕ ℕ ℕ in_base in_node (in_part known) in_pick in_expr in_left (record {
  place = e.place;
  kind = e.kind;
  node =
      e.node;
})

-- a list of parts, each with what is counted in it
sums_beside : {A : Type 0} (f : A → ℕ) (xs : List A) → total (map (λ (p : A × ℕ). p.1) (map (λ x. (x, f x)) xs)) ≡ total (map f xs)
sums_beside f [] = refl
sums_beside f (x ∷ xs) = ap (λ n. f x + n) (sums_beside f xs)

sums_inside : {A : Type 0} (f : A → Part) (xs : List A) → total (map (λ (p : A × Part). p.1.inside) (map (λ x. (x, f x)) xs))
    ≡ total (map (λ p. p.inside) (map f xs))
sums_inside f [] = refl
sums_inside f (x ∷ xs) = ap (λ n. (f x).inside + n) (sums_inside f xs)

sizes_beside : {A : Type 0} (f : A → Part) (xs : List A) → map (λ (p : A × Part). p.1.size) (map (λ x. (x, f x)) xs) ≡ map (λ p. p.size) (map f xs)
sizes_beside f [] = refl
sizes_beside f (x ∷ xs) = ap (λ n. (f x).size ∷ n) (sizes_beside f xs)

-- ---- each node of an expression

pub of_lit : (known : CoreExpr → Option Number) (e : CoreExpr) (w : Word) → e.node ≡ node.Lit w → expr_elements known e ≡ 0
unfolding expr_elements left_elements pick_elements node_elements
of_lit known e w is = expr_is known e ∙ ap (node_elements known) (is ∙ sym (node.rolls-Lit w))
    ∙ para-roll-CoreExprNode ℕ ℕ Part ℕ ℕ ℕ in_base in_node (in_part known) in_pick in_expr in_left (tree.Lit w)

pub of_load : (known : CoreExpr → Option Number) (e : CoreExpr) (l : CoreLeft) → e.node ≡ node.Load l → expr_elements known e ≡ left_elements known l
unfolding expr_elements left_elements pick_elements node_elements
of_load known e l is = expr_is known e ∙ ap (node_elements known) (is ∙ sym (node.rolls-Load l))
    ∙ para-roll-CoreExprNode ℕ ℕ Part ℕ ℕ ℕ in_base in_node (in_part known) in_pick in_expr in_left (tree.Load l)

pub of_read : (known : CoreExpr → Option Number) (e : CoreExpr) (l : CoreLeft) → e.node ≡ node.Read l → expr_elements known e ≡ left_elements known l
unfolding expr_elements left_elements pick_elements node_elements
of_read known e l is = expr_is known e ∙ ap (node_elements known) (is ∙ sym (node.rolls-Read l))
    ∙ para-roll-CoreExprNode ℕ ℕ Part ℕ ℕ ℕ in_base in_node (in_part known) in_pick in_expr in_left (tree.Read l)

pub of_convert : (known : CoreExpr → Option Number) (e : CoreExpr) (a : CoreExpr) → e.node ≡ node.Convert a → expr_elements known e ≡ expr_elements known a
unfolding expr_elements left_elements pick_elements node_elements
of_convert known e a is = expr_is known e ∙ ap (node_elements known) (is ∙ sym (node.rolls-Convert a))
    ∙ para-roll-CoreExprNode ℕ ℕ Part ℕ ℕ ℕ in_base in_node (in_part known) in_pick in_expr in_left (tree.Convert a)

pub of_unary : (known : CoreExpr → Option Number) (e : CoreExpr) (o : Op) (a : CoreExpr) → e.node ≡ node.Operate o a None
    → expr_elements known e ≡ expr_elements known a + 0
unfolding expr_elements left_elements pick_elements node_elements
of_unary known e o a is = expr_is known e ∙ ap (node_elements known) (is ∙ sym (node.rolls-Operate o a None))
    ∙ para-roll-CoreExprNode ℕ ℕ Part ℕ ℕ ℕ in_base in_node (in_part known) in_pick in_expr in_left (tree.Operate o a None)

pub of_binary : (known : CoreExpr → Option Number) (e : CoreExpr) (o : Op) (a b : CoreExpr) → e.node ≡ node.Operate o a (Some b)
    → expr_elements known e ≡ expr_elements known a + expr_elements known b
unfolding expr_elements left_elements pick_elements node_elements
of_binary known e o a b is = expr_is known e ∙ ap (node_elements known) (is ∙ sym (node.rolls-Operate o a (Some b)))
    ∙ para-roll-CoreExprNode ℕ ℕ Part ℕ ℕ ℕ in_base in_node (in_part known) in_pick in_expr in_left (tree.Operate o a (Some b))

pub of_choose : (known : CoreExpr → Option Number) (e : CoreExpr) (t a b : CoreExpr) → e.node ≡ node.Choose t a b
    → expr_elements known e ≡ expr_elements known t + (expr_elements known a + expr_elements known b)
unfolding expr_elements left_elements pick_elements node_elements
of_choose known e t a b is = expr_is known e ∙ ap (node_elements known) (is ∙ sym (node.rolls-Choose t a b))
    ∙ para-roll-CoreExprNode ℕ ℕ Part ℕ ℕ ℕ in_base in_node (in_part known) in_pick in_expr in_left (tree.Choose t a b)

pub of_bits : (known : CoreExpr → Option Number) (e : CoreExpr) (a : CoreExpr) (k : CorePick) → e.node ≡ node.Pick a k
    → expr_elements known e ≡ expr_elements known a + pick_elements known k
unfolding expr_elements left_elements pick_elements node_elements
of_bits known e a k is = expr_is known e ∙ ap (node_elements known) (is ∙ sym (node.rolls-Pick a k))
    ∙ para-roll-CoreExprNode ℕ ℕ Part ℕ ℕ ℕ in_base in_node (in_part known) in_pick in_expr in_left (tree.Pick a k)

pub of_join : (known : CoreExpr → Option Number) (e : CoreExpr) (es : List CoreExpr) → e.node ≡ node.Join es
    → expr_elements known e ≡ total (map (expr_elements known) es)
unfolding expr_elements left_elements pick_elements node_elements
of_join known e es is = expr_is known e ∙ ap (node_elements known) (is ∙ sym (node.rolls-Join es))
    ∙ para-roll-CoreExprNode ℕ ℕ Part ℕ ℕ ℕ in_base in_node (in_part known) in_pick in_expr in_left (tree.Join es) ∙ sums_beside (expr_elements known) es

-- ---- a location and its parts

pub of_member : (known : CoreExpr → Option Number) (p : CorePart) (n : Name) → p ≡ part.Member n → part_of known p ≡ record { inside = 0; size = None }
unfolding part_of
of_member known p n is = ap (λ x. part_of known x) (is ∙ sym (part.rolls-Member n))
    ∙ para-roll-CorePart ℕ ℕ Part ℕ ℕ ℕ in_base in_node (in_part known) in_pick in_expr in_left (tree.Member n)

pub of_index : (known : CoreExpr → Option Number) (p : CorePart) (size : ℕ) (at : CoreExpr) → p ≡ part.Index size at
    → part_of known p ≡ record { inside = expr_elements known at; size = unknown size (known at) }
unfolding part_of expr_elements
of_index known p size at is = ap (λ x. part_of known x) (is ∙ sym (part.rolls-Index size at))
    ∙ para-roll-CorePart ℕ ℕ Part ℕ ℕ ℕ in_base in_node (in_part known) in_pick in_expr in_left (tree.Index size at)

pub of_bit : (known : CoreExpr → Option Number) (k : CorePick) (of : _) (at : CoreExpr) → k ≡ pick.Bit of at → pick_elements known k ≡ expr_elements known at
unfolding pick_elements expr_elements
of_bit known k of at is = ap (λ x. pick_elements known x) (is ∙ sym (pick.rolls-Bit of at))
    ∙ para-roll-CorePick ℕ ℕ Part ℕ ℕ ℕ in_base in_node (in_part known) in_pick in_expr in_left (tree.Bit of at)

pub of_range : (known : CoreExpr → Option Number) (k : CorePick) (of : _) (h l : ℕ) → k ≡ pick.Range of h l → pick_elements known k ≡ 0
unfolding pick_elements
of_range known k of h l is = ap (λ x. pick_elements known x) (is ∙ sym (pick.rolls-Range of h l))
    ∙ para-roll-CorePick ℕ ℕ Part ℕ ℕ ℕ in_base in_node (in_part known) in_pick in_expr in_left (tree.Range of h l)

-- what is counted of a location
abbrev pub whole_left : (CoreExpr → Option Number) → CoreLeft → ℕ
whole_left known l = under (map (λ p. p.size) (map (part_of known) l.parts)) + (total (map (λ p. p.inside) (map (part_of known) l.parts)) + optional
    (pick_elements known) l.pick)

picked : (known : CoreExpr → Option Number) (l : CoreLeft) (o : Option CorePick) → l.pick ≡ o → left_elements known l ≡ whole_left known l
unfolding left_elements part_of pick_elements
picked known l None is =
    ap (λ o. left_elements known (record { place = l.place; base = l.base; parts = l.parts; pick = o })) is
    ∙ para-roll-CoreLeft ℕ ℕ Part ℕ ℕ ℕ in_base in_node (in_part known) in_pick in_expr in_left (record {
      place = l.place;
      base = l.base;
      parts = l.parts;
      pick = None;
    })
    ∙ ap (λ n. under (map (λ (p : CorePart × Part). p.1.size) (map (λ x. (x, part_of known x)) l.parts)) + (n + 0)) (sums_inside (part_of known) l.parts)
    ∙ ap (λ n. under n + (total (map (λ p. p.inside) (map (part_of known) l.parts)) + 0)) (sizes_beside (part_of known) l.parts)
    ∙ ap (λ o. under (map (λ p. p.size) (map (part_of known) l.parts)) + (total (map (λ p. p.inside) (map (part_of known) l.parts)) + optional (pick_elements
    known) o)) (sym is)
picked known l (Some k) is =
    ap (λ o. left_elements known (record { place = l.place; base = l.base; parts = l.parts; pick = o })) is
    ∙ para-roll-CoreLeft ℕ ℕ Part ℕ ℕ ℕ in_base in_node (in_part known) in_pick in_expr in_left (record {
      place = l.place;
      base = l.base;
      parts = l.parts;
      pick = Some k;
    })
    ∙ ap (λ n. under (map (λ (p : CorePart × Part). p.1.size) (map (λ x. (x, part_of known x)) l.parts)) + (n + pick_elements known k)) (sums_inside (part_of
    known) l.parts)
    ∙ ap (λ n. under n + (total (map (λ p. p.inside) (map (part_of known) l.parts)) + pick_elements known k)) (sizes_beside (part_of known) l.parts)
    ∙ ap (λ o. under (map (λ p. p.size) (map (part_of known) l.parts)) + (total (map (λ p. p.inside) (map (part_of known) l.parts)) + optional (pick_elements
    known) o)) (sym is)

pub left_is : (known : CoreExpr → Option Number) (l : CoreLeft) → left_elements known l ≡ whole_left known l
left_is known l = picked known l l.pick refl
