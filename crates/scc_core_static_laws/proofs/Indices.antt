-- The value that is found of a whole index is the number that the definitions have. As a number of 128 bits without sign an index is
-- its own number there, so the law on static values, taken of that conversion, tells it.
use Rattle.std.proofs.Common.{◌≡◌, refl, sym, ap, subst, ◌∙◌, arith, ℕ, ◌≤◌, ◌^◌, Bool, true, false, not, ◌&&◌, nat_eq, nat_lt, ◌⊎◌, inl, inr, if◌then◌else◌, List, [], ◌∷◌, map, slice_get, Option, Some, None, option_map, option_and_then}
use Rattle.std.proofs.lemmas.Grind.{common_steps}
use Rattle.scc_base.specs.declared.refusal.Place.{Place}
use Rattle.scc_bits_kinds.specs.declared.kind.Kind.{Kind}
use Rattle.scc_bits_kinds.specs.declared.kind.Kind.TheVariants as kind
use Rattle.scc_bits_kinds.specs.declared.op.Op.{Op}
use Rattle.scc_bits_kinds.specs.Kinds.{IsValid, Fits, width_of, stored}
use Rattle.scc_bits.specs.Value.{Number, exactly}
use Rattle.scc_core.specs.declared.expr.CoreBase.{CoreBase, fold_out-CoreBase, map-CoreBase, out-CoreBase}
use Rattle.scc_core.specs.declared.expr.CoreBase.TheOpen.{CoreBase-F, CorePick-F}
use Rattle.scc_core.specs.declared.expr.CoreBase.TheOpen as tree
use Rattle.scc_core.specs.declared.expr.CoreExpr.{CoreExpr, fold-roll-CoreExpr}
use Rattle.scc_core.specs.declared.expr.CoreExprNode.{CoreExprNode, fold-roll-CoreExprNode, fold_out-CoreExprNode, out-CoreExprNode, roll-CoreExprNode}
use Rattle.scc_core.specs.declared.expr.CoreLeft.{CoreLeft}
use Rattle.scc_core.specs.declared.expr.CorePart.{CorePart}
use Rattle.scc_core.specs.declared.expr.CorePick.{CorePick, fold_out-CorePick, map-CorePick, out-CorePick}
use Rattle.scc_core.specs.declared.program.Cell.{Cell}
use Rattle.scc_core.specs.declared.program.CellName.{CellName}
use Rattle.scc_core.specs.declared.program.CellSort.{CellSort}
use Rattle.scc_core.specs.declared.program.CellSort.TheVariants as sort
use Rattle.scc_core.specs.Elements.{Facts, Part, at_cell, at_element, fixed, found, inside, left_in, past, whole_cell}
use Rattle.scc_core.specs.Numbers.{all_joined, answer, bit, is_valid, selected, small, stored_in, valued}
use Rattle.scc_core.specs.Statics.{chosen, facts_of, left_value, operated, part_in, pick_in, picked, static_of, value_in}
use Rattle.scc_core.specs.Statics as of
use Rattle.scc_core.proofs.Numbers.{is_it}
use Rattle.scc_semantics.specs.Scene.{index_of}
use Rattle.scc_core_spec.specs.Fold.{static_index}
use Rattle.scc_core_spec.specs.Program.{Vector}
use Rattle.scc_core_spec.specs.Static.{static}
use Rattle.scc_core_spec.specs.Term.{Left, Term}
use Rattle.scc_core_spec.specs.Term as term
use Rattle.scc_core_view.specs.Programs.{cell_of}
use Rattle.scc_core_view.specs.Terms.{term_of}
use Rattle.scc_core_view.specs.Terms as to
use Rattle.scc_core_view.specs.Whole.{IsWhole, convert, made}
use Rattle.scc_core_view.proofs.StaticNumbers.{index_told, num, stored_fits}
use Rattle.scc_core_static_laws.specs.Indices.{Finds, unknown, number, past as too_large}
use Rattle.scc_core_static_laws.proofs.Nodes.{Layer, base_in, layer_in, left_made, node_in, value_made}

-- ---- what is found is a number of a kind that there is, and its word fits it

data IsNumber : Option Number → Type 0 where
  no_number : IsNumber None
  a_number : (k : Kind) (w : ℕ) → IsValid k → Fits k w → IsNumber (Some (num k w))

valued_number : (k : Kind) (w : ℕ) → IsNumber (valued k w)
unfolding valued
valued_number k w = by (is_valid k) (nat_lt w (2 ^ width_of k)) refl refl
  where
    by : (a b : Bool) → is_valid k ≡ a → nat_lt w (2 ^ width_of k) ≡ b → IsNumber (if a && b then Some (record { kind = k; word = w }) else None)
    by true true h g = let fit : Fits k w = grind (arith, common_steps, g) in a_number k w (is_it k h) fit
    by true false h g = no_number
    by false b h g = no_number

stored_number : (k : Kind) (n : Number) → IsNumber (stored_in k n)
unfolding stored_in
stored_number k n = by (is_valid k) refl
  where
    by : (a : Bool) → is_valid k ≡ a → IsNumber (if a then Some (record { kind = k; word = stored k (exactly n) }) else None)
    by true h = a_number k (stored k (exactly n)) (is_it k h) (stored_fits k (exactly n))
    by false h = no_number

then_number : {A : Type 0} (f : A → Option Number) → ((a : A) → IsNumber (f a)) → (o : Option A) → IsNumber (option_and_then f o)
then_number f h None = no_number
then_number f h (Some a) = h a

operated_number : (k : Kind) (o : Op) (x : Number) (b : Option (Option Number)) → IsNumber (operated k o x b)
operated_number k o x None = then_number (valued k) (valued_number k) (answer o x x)
operated_number k o x (Some b) = then_number (λ y. option_and_then (valued k) (answer o x y)) (λ y. then_number (valued k) (valued_number k) (answer o x y)) b

left_number : (k : Kind) (s : CellSort) → IsNumber (left_in k s)
left_number k sort.Input = no_number
left_number k sort.Output = no_number
left_number k sort.Signal = no_number
left_number k (sort.Variable w true) = valued_number k w.bits
left_number k (sort.Variable w false) = no_number
left_number k (sort.Local n) = no_number
left_number k (sort.Pointer t) = no_number
left_number k (sort.Port r) = no_number

fixed_number : (cells : List Cell) (n : ℕ) → IsNumber (fixed cells n)
unfolding fixed
fixed_number cells n = then_number (λ c. left_in c.kind c.sort) (λ c. left_number c.kind c.sort) (slice_get cells n)

module _ (g : Facts) (held : (n : ℕ) → IsNumber (g.held n)) (fixed_at : (n : ℕ) → IsNumber (g.fixed_at n)) where
  past_number : (ps : List Part) (name : CellName) → IsNumber (past g ps name)
  past_number ps name = then_number (λ v. valued v.kind 0) (λ v. valued_number v.kind 0) (option_and_then g.fixed_at (found g true ps name))

  at_number : (ps : List Part) (name : CellName) (o : Option ℕ) → IsNumber (at_cell g ps name o)
  at_number ps name None = past_number ps name
  at_number ps name (Some c) = fixed_at c

  inside_number : (ps : List Part) (name : CellName) (b : Bool) → IsNumber (at_element g ps name b)
  inside_number ps name true = at_number ps name (found g false ps name)
  inside_number ps name false = past_number ps name

  whole_number : (n : ℕ) (ps : List Part) → IsNumber (whole_cell g n ps)
  whole_number n [] = held n
  whole_number n (p ∷ ps) = no_number

  base_number : (b : CoreBase) (ps : List Part) → IsNumber (base_in g b ps)
  base_number b ps = subst (λ f. IsNumber (f ps)) (sym (fold_out-CoreBase of.Base of.Node Part of.Pick of.Expr of.Left (of.base_node g) of.expr_node of.part_node of.pick_node of.expr_step of.left_step b)) (by (out-CoreBase b))
    where
      by : (x : CoreBase-F CoreBase CoreExprNode CorePart CorePick CoreExpr CoreLeft)
          → IsNumber (of.base_node g (map-CoreBase CoreBase CoreExprNode CorePart CorePick CoreExpr CoreLeft of.Base of.Node Part of.Pick of.Expr of.Left (base_in g) (node_in g) (part_in g) (pick_in g) (value_in g) (left_value g) x) ps)
      by (tree.Cell n) = whole_number n ps
      by (tree.Prefix name) = then_number (at_element g ps name) (inside_number ps name) (inside ps)
      by (tree.Follow l soft) = no_number
      by tree.Null = no_number

  pick_number : (q : CorePick) (v : Number) (k : Kind) → IsNumber (pick_in g q v k)
  pick_number q v k = subst (λ f. IsNumber (f v k)) (sym (fold_out-CorePick of.Base of.Node Part of.Pick of.Expr of.Left (of.base_node g) of.expr_node of.part_node of.pick_node of.expr_step of.left_step q)) (by (out-CorePick q))
    where
      by : (x : CorePick-F CoreBase CoreExprNode CorePart CorePick CoreExpr CoreLeft)
          → IsNumber (of.pick_node (map-CorePick CoreBase CoreExprNode CorePart CorePick CoreExpr CoreLeft of.Base of.Node Part of.Pick of.Expr of.Left (base_in g) (node_in g) (part_in g) (pick_in g) (value_in g) (left_value g) x) v k)
      by (tree.Bit j at) = then_number (λ i. valued k (bit v i)) (λ i. valued_number k (bit v i)) (value_in g at)
      by (tree.Range j a b) = then_number (valued k) (valued_number k) (selected a b v)

  loaded_number : (l : CoreLeft) (k : Kind) → IsNumber (left_value g l k)
  loaded_number l k = subst IsNumber (sym (left_made g l.place l.base l.parts l.pick k)) (by l.pick (base_in g l.base (map (part_in g) l.parts)) (base_number l.base (map (part_in g) l.parts)))
    where
      by : (q : Option CorePick) (o : Option Number) → IsNumber o → IsNumber (option_and_then (picked (option_map (pick_in g) q) k) o)
      by None None h = h
      by None (Some v) h = h
      by (Some q) o h = then_number (λ v. pick_in g q v k) (λ v. pick_number q v k) o

  node_number : (x : Layer) (k : Kind) → IsNumber (of.expr_node (layer_in g x) k)
  node_number (tree.Lit w) k = valued_number k w.bits
  node_number (tree.Load l) k = loaded_number l k
  node_number (tree.Read l) k = no_number
  node_number (tree.Convert e) k = then_number (stored_in k) (stored_number k) (value_in g e)
  node_number (tree.Operate o a None) k = then_number (λ x. operated k o x None) (λ x. operated_number k o x None) (value_in g a)
  node_number (tree.Operate o a (Some b)) k = then_number (λ x. operated k o x (Some (value_in g b))) (λ x. operated_number k o x (Some (value_in g b))) (value_in g a)
  node_number (tree.Choose t a b) k =
      then_number (λ x. option_and_then (λ y. option_and_then (λ z. chosen k x y z) (value_in g b)) (value_in g a))
      (λ x. then_number (λ y. option_and_then (λ z. chosen k x y z) (value_in g b)) (λ y. then_number (λ z. chosen k x y z) (λ z. stored_number k (if not (nat_eq x.word 0) then y else z)) (value_in g b)) (value_in g a)) (value_in g t)
  node_number (tree.Pick e q) k = then_number (λ x. pick_in g q x k) (λ x. pick_number q x k) (value_in g e)
  node_number (tree.Join es) k = then_number (λ v. valued k v.word) (λ v. valued_number k v.word) (all_joined (map (value_in g) es))

  value_number : (e : CoreExpr) → IsNumber (value_in g e)
  value_number e = subst IsNumber (sym is) (node_number (out-CoreExprNode e.node) e.kind)
    where
      is : value_in g e ≡ of.expr_node (layer_in g (out-CoreExprNode e.node)) e.kind
      is =
          fold-roll-CoreExpr of.Base of.Node Part of.Pick of.Expr of.Left (of.base_node g) of.expr_node of.part_node of.pick_node of.expr_step of.left_step (record { place = e.place; kind = e.kind; node = e.node })
          ∙ ap (λ n. n e.kind) (fold_out-CoreExprNode of.Base of.Node Part of.Pick of.Expr of.Left (of.base_node g) of.expr_node of.part_node of.pick_node of.expr_step of.left_step e.node)

-- ---- the index

abbrev wide : Kind
wide = kind.Big 128

converted_term : (p : Place) (e : CoreExpr) → term_of (made p wide (tree.Convert e)) ≡ term.Convert p wide (term_of e)
converted_term p e =
    fold-roll-CoreExpr to.Base to.Node (Left → Left) to.Picking Term to.Taken to.base_node to.expr_node to.part_node to.pick_node to.expr_step to.left_step (record { place = p; kind = wide; node = roll-CoreExprNode (tree.Convert e) })
    ∙ ap (λ n. n p wide) (fold-roll-CoreExprNode to.Base to.Node (Left → Left) to.Picking Term to.Taken to.base_node to.expr_node to.part_node to.pick_node to.expr_step to.left_step (tree.Convert e))

-- the law on static values
abbrev pub AreStatic : List Cell → Type 0
AreStatic cells = (e : CoreExpr) → IsWhole cells e → option_map (λ v. v.word) (static_of cells e) ≡ static (map cell_of cells) (term_of e)

module _ (cells : List Cell) (static_values : AreStatic cells) (vs : List Vector) where
  index_is : (e : CoreExpr) → IsWhole cells e → static_index (map cell_of cells) vs (term_of e) ≡ option_map (λ v. v.word) (option_and_then (stored_in wide) (value_in (facts_of cells) e))
  unfolding static_of
  index_is e w =
      let bounds : (1 ≤ 128) × (128 ≤ 128) = (omega arith, omega arith) in
      sym (ap (static (map cell_of cells)) (converted_term e.place e))
      ∙ sym (static_values (made e.place wide (tree.Convert e)) (convert bounds w))
      ∙ ap (option_map (λ v. v.word)) (value_made (facts_of cells) e.place wide (tree.Convert e))

  told : (v : Option Number) → IsNumber v → Finds v (option_map (λ v. v.word) (option_and_then (stored_in wide) v))
  unfolding stored_in
  told None no_number = unknown
  told (Some n) (a_number k w valid fits) = by (index_told k w valid fits)
    where
      by : ((m : ℕ) × (small (num k w) ≡ Some m) × (index_of k w ≡ m)) ⊎ ((small (num k w) ≡ None) × (4294967296 ≤ index_of k w)) → Finds (Some (num k w)) (Some (index_of k w))
      by (inl (m, s, i)) = subst (λ n. Finds (Some (num k w)) (Some n)) (sym i) (number s)
      by (inr (s, l)) = too_large s l

  pub index_found : (e : CoreExpr) → IsWhole cells e → Finds (value_in (facts_of cells) e) (static_index (map cell_of cells) vs (term_of e))
  index_found e w = subst (Finds (value_in (facts_of cells) e)) (sym (index_is e w)) (told (value_in (facts_of cells) e) (value_number (facts_of cells) (fixed_number cells) (fixed_number cells) e))
