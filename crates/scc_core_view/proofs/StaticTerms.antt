-- The static value of a whole expression is that of its term: along the rules of whole expressions.
use Rattle.std.proofs.Common.{◌≤◌, ◌<◌, ◌-◌, ◌+◌, unwrap_or, ◌≡◌, refl, sym, ap, subst, ◌∙◌, ℕ, Bool, List, [], ◌∷◌, map, slice_get, Option, Some, None, option_map, option_and_then}
use Rattle.scc_base.specs.declared.refusal.Place.{Place}
use Rattle.scc_base.specs.declared.names.Name.{Name}
use Rattle.scc_bits_kinds.specs.declared.kind.Kind.{Kind}
use Rattle.scc_bits_kinds.specs.Kinds.{width_of}
use Rattle.scc_bits_kinds.specs.Bits.{range_of}
use Rattle.scc_bits.specs.Value.{Number}
use Rattle.scc_core.specs.declared.expr.CoreExpr.{CoreExpr, fold-roll-CoreExpr}
use Rattle.scc_core.specs.declared.expr.CoreExprNode.{CoreExprNode, roll-CoreExprNode, map-CoreExprNode, fold-CoreExprNode, fold-roll-CoreExprNode}
use Rattle.scc_core.specs.declared.expr.CoreLeft.{CoreLeft, fold-roll-CoreLeft}
use Rattle.scc_core.specs.declared.expr.CoreBase.{CoreBase, roll-CoreBase, fold-CoreBase, map-CoreBase, fold-roll-CoreBase}
use Rattle.scc_core.specs.declared.expr.CorePart.{CorePart, roll-CorePart, out-CorePart, fold-CorePart, map-CorePart, fold-roll-CorePart, fold_out-CorePart}
use Rattle.scc_core.specs.declared.expr.CorePick.{CorePick, roll-CorePick, fold-CorePick, fold-roll-CorePick}
use Rattle.scc_core.specs.declared.expr.CoreBase.TheOpen.{CoreBase-F, CoreExprNode-F, CorePart-F, CorePick-F}
use Rattle.scc_core.specs.declared.expr.CoreBase.TheOpen as tree
use Rattle.scc_core.specs.declared.program.Cell.{Cell}
use Rattle.scc_core.specs.declared.program.CellName.{CellName}
use Rattle.scc_core.specs.Statics.{facts_of, value_in, static_of, left_value, part_in, pick_in}
use Rattle.scc_core.specs.Statics as of
use Rattle.scc_core_view.specs.Terms.{term_of, taken_of}
use Rattle.scc_core_view.specs.Terms as to
use Rattle.scc_core.specs.Elements.{Part, inside}
use Rattle.scc_core.specs.Elements as element
use Rattle.scc_core_spec.specs.Term.{Term, Left, Pick, kind_of}
use Rattle.scc_core_spec.specs.Term as term
use Rattle.scc_core_spec.specs.Named.{Named, At, steps_of}
use Rattle.scc_core_spec.specs.Static.{Cells, first_of, found, grown, held_at, index_step, pattern, static}
use Rattle.scc_core.specs.Numbers.{above, above_all, valued}
use Rattle.scc_bits_kinds.specs.declared.kind.Kind.TheVariants as kind
use Rattle.scc_core_view.specs.Programs.{cell_of}
use Rattle.scc_core_view.specs.Whole.{AreWholeCells, IsArray, IsWhole, literal, load, read, convert, unary, binary, choose, pick, join, IsPicked, bit, range, AreJoined, last, next, IsLoaded, all, some, IsNamed, cell, front, follow, null, AreParts, none, member, index, behind, made, location}
use Rattle.scc_core_view.proofs.StaticNumbers.{Says, nothing, Words, same_word, as_word, literal_says, convert_says, unary_says, binary_says, choose_says, bit_says, range_says, above_says, above_on, whole_says, alone_says}
use Rattle.scc_core_view.proofs.StaticElements.{Piece, named, indexed, part_of, left_by, front_at, front_says, whole_cell_says}

abbrev pub Layer : Type 0
Layer = CoreExprNode-F CoreBase CoreExprNode CorePart CorePick CoreExpr CoreLeft

-- ---- what terms stand for trees, node by node

abbrev pub term_node : CoreExprNode → to.Node
term_node = fold-CoreExprNode to.Base to.Node (Left → Left) to.Picking Term to.Taken to.base_node to.expr_node to.part_node to.pick_node to.expr_step to.left_step

abbrev pub term_base : CoreBase → to.Base
term_base = fold-CoreBase to.Base to.Node (Left → Left) to.Picking Term to.Taken to.base_node to.expr_node to.part_node to.pick_node to.expr_step to.left_step

abbrev pub term_part : CorePart → Left → Left
term_part = fold-CorePart to.Base to.Node (Left → Left) to.Picking Term to.Taken to.base_node to.expr_node to.part_node to.pick_node to.expr_step to.left_step

abbrev pub term_pick : CorePick → to.Picking
term_pick = fold-CorePick to.Base to.Node (Left → Left) to.Picking Term to.Taken to.base_node to.expr_node to.part_node to.pick_node to.expr_step to.left_step

abbrev pub term_layer : Layer → CoreExprNode-F to.Base to.Node (Left → Left) to.Picking Term to.Taken
term_layer = map-CoreExprNode CoreBase CoreExprNode CorePart CorePick CoreExpr CoreLeft to.Base to.Node (Left → Left) to.Picking Term to.Taken term_base term_node term_part term_pick term_of taken_of

pub term_made : (p : Place) (k : Kind) (x : Layer) → term_of (made p k x) ≡ to.expr_node (term_layer x) p k
term_made p k x =
    fold-roll-CoreExpr to.Base to.Node (Left → Left) to.Picking Term to.Taken to.base_node to.expr_node to.part_node to.pick_node to.expr_step to.left_step (record { place = p; kind = k; node = roll-CoreExprNode x })
    ∙ ap (λ n. n p k) (fold-roll-CoreExprNode to.Base to.Node (Left → Left) to.Picking Term to.Taken to.base_node to.expr_node to.part_node to.pick_node to.expr_step to.left_step x)

pub taken_whole : (p : Place) (b : CoreBase) (ps : List CorePart) → taken_of (location p b ps None) ≡ record { left = to.extended (term_base b p) (map term_part ps); pick = term.Whole; of = None }
taken_whole p b ps = fold-roll-CoreLeft to.Base to.Node (Left → Left) to.Picking Term to.Taken to.base_node to.expr_node to.part_node to.pick_node to.expr_step to.left_step (record { place = p; base = b; parts = ps; pick = None })

taken_some : (p : Place) (b : CoreBase) (ps : List CorePart) (q : CorePick) → taken_of (location p b ps (Some q)) ≡ record { left = to.extended (term_base b p) (map term_part ps); pick = (term_pick q).pick; of = Some (term_pick q).of }
taken_some p b ps q = fold-roll-CoreLeft to.Base to.Node (Left → Left) to.Picking Term to.Taken to.base_node to.expr_node to.part_node to.pick_node to.expr_step to.left_step (record { place = p; base = b; parts = ps; pick = Some q })

module _ (cells : List Cell) where
  abbrev pub value_node : CoreExprNode → of.Node
  value_node = fold-CoreExprNode of.Base of.Node Part of.Pick of.Expr of.Left (of.base_node (facts_of cells)) of.expr_node of.part_node of.pick_node of.expr_step of.left_step

  abbrev pub value_base : CoreBase → of.Base
  value_base = fold-CoreBase of.Base of.Node Part of.Pick of.Expr of.Left (of.base_node (facts_of cells)) of.expr_node of.part_node of.pick_node of.expr_step of.left_step

  abbrev pub value_layer : Layer → CoreExprNode-F of.Base of.Node Part of.Pick of.Expr of.Left
  value_layer = map-CoreExprNode CoreBase CoreExprNode CorePart CorePick CoreExpr CoreLeft of.Base of.Node Part of.Pick of.Expr of.Left value_base value_node (part_in (facts_of cells)) (pick_in (facts_of cells)) (value_in (facts_of cells)) (left_value (facts_of cells))

  pub value_made : (p : Place) (k : Kind) (x : Layer) → value_in (facts_of cells) (made p k x) ≡ of.expr_node (value_layer x) k
  value_made p k x =
      fold-roll-CoreExpr of.Base of.Node Part of.Pick of.Expr of.Left (of.base_node (facts_of cells)) of.expr_node of.part_node of.pick_node of.expr_step of.left_step (record { place = p; kind = k; node = roll-CoreExprNode x })
      ∙ ap (λ n. n k) (fold-roll-CoreExprNode of.Base of.Node Part of.Pick of.Expr of.Left (of.base_node (facts_of cells)) of.expr_node of.part_node of.pick_node of.expr_step of.left_step x)

  pub left_whole : (p : Place) (b : CoreBase) (ps : List CorePart) (k : Kind) → left_value (facts_of cells) (location p b ps None) k ≡ option_and_then (λ v. Some v) (value_base b (map (part_in (facts_of cells)) ps))
  left_whole p b ps k = ap (λ f. f k) (fold-roll-CoreLeft of.Base of.Node Part of.Pick of.Expr of.Left (of.base_node (facts_of cells)) of.expr_node of.part_node of.pick_node of.expr_step of.left_step (record { place = p; base = b; parts = ps; pick = None }))

  pub left_some : (p : Place) (b : CoreBase) (ps : List CorePart) (q : CorePick) (k : Kind) → left_value (facts_of cells) (location p b ps (Some q)) k ≡ option_and_then (λ v. pick_in (facts_of cells) q v k) (value_base b (map (part_in (facts_of cells)) ps))
  left_some p b ps q k = ap (λ f. f k) (fold-roll-CoreLeft of.Base of.Node Part of.Pick of.Expr of.Left (of.base_node (facts_of cells)) of.expr_node of.part_node of.pick_node of.expr_step of.left_step (record { place = p; base = b; parts = ps; pick = Some q }))

  -- what is said of an expression and its term
  abbrev pub Tells : CoreExpr → Type 0
  Tells e = Says e.kind (kind_of (term_of e)) (value_in (facts_of cells) e) (static (map cell_of cells) (term_of e))

  tells_made : (p : Place) (k : Kind) (x : Layer)
      → Says k (kind_of (to.expr_node (term_layer x) p k)) (of.expr_node (value_layer x) k) (static (map cell_of cells) (to.expr_node (term_layer x) p k))
      → Tells (made p k x)
  tells_made p k x s =
      subst (λ t. Says k (kind_of t) (value_in (facts_of cells) (made p k x)) (static (map cell_of cells) t)) (sym (term_made p k x))
      (subst (λ v. Says k (kind_of (to.expr_node (term_layer x) p k)) v (static (map cell_of cells) (to.expr_node (term_layer x) p k))) (sym (value_made p k x)) s)

  -- ---- parts of trees

  member_value : (n : Name) → part_in (facts_of cells) (roll-CorePart (tree.Member n)) ≡ element.Member n
  member_value n = fold-roll-CorePart of.Base of.Node Part of.Pick of.Expr of.Left (of.base_node (facts_of cells)) of.expr_node of.part_node of.pick_node of.expr_step of.left_step (tree.Member n)

  pub index_value : (size : ℕ) (e : CoreExpr) → part_in (facts_of cells) (roll-CorePart (tree.Index size e)) ≡ element.Element size (value_in (facts_of cells) e)
  index_value size e = fold-roll-CorePart of.Base of.Node Part of.Pick of.Expr of.Left (of.base_node (facts_of cells)) of.expr_node of.part_node of.pick_node of.expr_step of.left_step (tree.Index size e)

  pub bit_value : (j : Kind) (e : CoreExpr) → pick_in (facts_of cells) (roll-CorePick (tree.Bit j e)) ≡ of.pick_node (tree.Bit j (value_in (facts_of cells) e))
  bit_value j e = fold-roll-CorePick of.Base of.Node Part of.Pick of.Expr of.Left (of.base_node (facts_of cells)) of.expr_node of.part_node of.pick_node of.expr_step of.left_step (tree.Bit j e)

  range_value : (j : Kind) (a b : ℕ) → pick_in (facts_of cells) (roll-CorePick (tree.Range j a b)) ≡ of.pick_node (tree.Range j a b)
  range_value j a b = fold-roll-CorePick of.Base of.Node Part of.Pick of.Expr of.Left (of.base_node (facts_of cells)) of.expr_node of.part_node of.pick_node of.expr_step of.left_step (tree.Range j a b)

  pub base_value : (x : CoreBase-F CoreBase CoreExprNode CorePart CorePick CoreExpr CoreLeft)
      → value_base (roll-CoreBase x) ≡ of.base_node (facts_of cells) (map-CoreBase CoreBase CoreExprNode CorePart CorePick CoreExpr CoreLeft of.Base of.Node Part of.Pick of.Expr of.Left value_base value_node (part_in (facts_of cells)) (pick_in (facts_of cells)) (value_in (facts_of cells)) (left_value (facts_of cells)) x)
  base_value x = fold-roll-CoreBase of.Base of.Node Part of.Pick of.Expr of.Left (of.base_node (facts_of cells)) of.expr_node of.part_node of.pick_node of.expr_step of.left_step x

member_term : (n : Name) → term_part (roll-CorePart (tree.Member n)) ≡ (λ l. term.Member l n.0)
member_term n = fold-roll-CorePart to.Base to.Node (Left → Left) to.Picking Term to.Taken to.base_node to.expr_node to.part_node to.pick_node to.expr_step to.left_step (tree.Member n)

pub index_term : (size : ℕ) (e : CoreExpr) → term_part (roll-CorePart (tree.Index size e)) ≡ (λ l. term.Index l size (term_of e))
index_term size e = fold-roll-CorePart to.Base to.Node (Left → Left) to.Picking Term to.Taken to.base_node to.expr_node to.part_node to.pick_node to.expr_step to.left_step (tree.Index size e)

bit_term : (j : Kind) (e : CoreExpr) → term_pick (roll-CorePick (tree.Bit j e)) ≡ record { of = j; pick = term.OneBit (term_of e) }
bit_term j e = fold-roll-CorePick to.Base to.Node (Left → Left) to.Picking Term to.Taken to.base_node to.expr_node to.part_node to.pick_node to.expr_step to.left_step (tree.Bit j e)

range_term : (j : Kind) (a b : ℕ) → term_pick (roll-CorePick (tree.Range j a b)) ≡ record { of = j; pick = term.Bits a b }
range_term j a b = fold-roll-CorePick to.Base to.Node (Left → Left) to.Picking Term to.Taken to.base_node to.expr_node to.part_node to.pick_node to.expr_step to.left_step (tree.Range j a b)

cell_term : (n : ℕ) → term_base (roll-CoreBase (tree.Cell n)) ≡ (λ p. term.Cell p n)
cell_term n = fold-roll-CoreBase to.Base to.Node (Left → Left) to.Picking Term to.Taken to.base_node to.expr_node to.part_node to.pick_node to.expr_step to.left_step (tree.Cell n)

pub front_term : (name : CellName) → term_base (roll-CoreBase (tree.Prefix name)) ≡ (λ p. term.Prefix p (to.name_of name))
front_term name = fold-roll-CoreBase to.Base to.Node (Left → Left) to.Picking Term to.Taken to.base_node to.expr_node to.part_node to.pick_node to.expr_step to.left_step (tree.Prefix name)

follow_term : (l : CoreLeft) (soft : Bool) → term_base (roll-CoreBase (tree.Follow l soft)) ≡ (λ p. term.Follow p soft (taken_of l).left)
follow_term l soft = fold-roll-CoreBase to.Base to.Node (Left → Left) to.Picking Term to.Taken to.base_node to.expr_node to.part_node to.pick_node to.expr_step to.left_step (tree.Follow l soft)

null_term : term_base (roll-CoreBase tree.Null) ≡ (λ p. term.Null p)
null_term = fold-roll-CoreBase to.Base to.Node (Left → Left) to.Picking Term to.Taken to.base_node to.expr_node to.part_node to.pick_node to.expr_step to.left_step tree.Null

-- ---- locations

part_none : (cs : Cells) (x : CorePart) (l : Left) → pattern cs l ≡ None → pattern cs (term_part x l) ≡ None
part_none cs x l e =
    ap (λ f. pattern cs (f l)) (fold_out-CorePart to.Base to.Node (Left → Left) to.Picking Term to.Taken to.base_node to.expr_node to.part_node to.pick_node to.expr_step to.left_step x)
    ∙ by (out-CorePart x)
  where
    by : (y : CorePart-F CoreBase CoreExprNode CorePart CorePick CoreExpr CoreLeft)
        → pattern cs (to.part_node (map-CorePart CoreBase CoreExprNode CorePart CorePick CoreExpr CoreLeft to.Base to.Node (Left → Left) to.Picking Term to.Taken term_base term_node term_part term_pick term_of taken_of y) l) ≡ None
    by (tree.Member n) = ap (λ z. grown z (Named n.0)) e
    by (tree.Index size i) = ap (λ z. grown z (index_step size (kind_of (term_of i)) (static cs (term_of i)))) e

parts_none : (cs : Cells) (ps : List CorePart) (l : Left) → pattern cs l ≡ None → pattern cs (to.extended l (map term_part ps)) ≡ None
parts_none cs [] l e = e
parts_none cs (x ∷ ps) l e = parts_none cs ps (term_part x l) (part_none cs x l e)

some_own : (o : Option Number) → option_and_then (λ v. Some v) o ≡ o
some_own None = refl
some_own (Some n) = refl

read_tells : (cs : Cells) (p : Place) (k j : Kind) (l : Left) (q : Pick) → Says k (kind_of (to.picked p k (term.Read p j l) q)) None (static cs (to.picked p k (term.Read p j l) q))
read_tells cs p k j l term.Whole = nothing
read_tells cs p k j l (term.OneBit i) = nothing
read_tells cs p k j l (term.Bits a b) = nothing

kind_joined : (cs : Cells) (p : Place) (k : Kind) (t : Term) (ts : List Term) → kind_of t ≡ k → kind_of (to.joined_behind p k t ts) ≡ k
kind_joined cs p k t [] e = e
kind_joined cs p k t (u ∷ ts) e = kind_joined cs p k (term.Join p k t u) ts refl

module _ (cells : List Cell) (h : AreWholeCells cells) where
  abbrev cs : Cells
  cs = map cell_of cells

  static_is : (e : CoreExpr) → static_of cells e ≡ value_in (facts_of cells) e
  unfolding static_of
  static_is e = refl

  abbrev PickTells : Kind → CorePick → Kind → Type 0
  PickTells j q k = (p : Place) (v : Option Number) (t : Term) → Says j (kind_of t) v (static cs t)
      → Says k (kind_of (to.picked p k t (term_pick q).pick)) (option_and_then (λ x. pick_in (facts_of cells) q x k) v) (static cs (to.picked p k t (term_pick q).pick))

  abbrev LoadTells : Kind → CoreLeft → Type 0
  LoadTells k l = (p : Place) → Says k (kind_of (to.picked p k (term.Load p (unwrap_or (taken_of l).of k) (taken_of l).left) (taken_of l).pick)) (left_value (facts_of cells) l k)
      (static cs (to.picked p k (term.Load p (unwrap_or (taken_of l).of k) (taken_of l).left) (taken_of l).pick))

  abbrev left_of : Place → CoreBase → List CorePart → Left
  left_of p b ps = to.extended (term_base b p) (map term_part ps)

  abbrev NamedTells : Place → CoreBase → List CorePart → Kind → Type 0
  NamedTells p b ps k = (q : Place) → Says k k (value_base cells b (map (part_in (facts_of cells)) ps)) (static cs (term.Load q k (left_of p b ps)))

  record Pieces (ps : List CorePart) : Type 0 where
    list : List (Piece cells h)
    values : map (part_in (facts_of cells)) ps ≡ map (part_of cells h) list
    terms : map term_part ps ≡ map (left_by cells h) list

  bit_tells : (j : Kind) (e : CoreExpr) → Tells cells e → PickTells j (roll-CorePick (tree.Bit j e)) kind.Bool
  bit_tells j e w p v t s =
      subst (λ q. Says kind.Bool (kind_of (to.picked p kind.Bool t q.pick)) (option_and_then (λ x. pick_in (facts_of cells) (roll-CorePick (tree.Bit j e)) x kind.Bool) v) (static cs (to.picked p kind.Bool t q.pick))) (sym (bit_term j e))
      (subst (λ f. Says kind.Bool kind.Bool (option_and_then (λ x. f x kind.Bool) v) (static cs (term.Bit p t (term_of e)))) (sym (bit_value cells j e)) (bit_says s w))

  range_tells : (j k : Kind) (a b : ℕ) → b ≤ a → a < width_of j → range_of j (a - b + 1) ≡ Some k → PickTells j (roll-CorePick (tree.Range j a b)) k
  range_tells j k a b x y z p v t s =
      subst (λ q. Says k (kind_of (to.picked p k t q.pick)) (option_and_then (λ x. pick_in (facts_of cells) (roll-CorePick (tree.Range j a b)) x k) v) (static cs (to.picked p k t q.pick))) (sym (range_term j a b))
      (subst (λ f. Says k k (option_and_then (λ x. f x k) v) (static cs (term.Range p k t a b))) (sym (range_value cells j a b)) (range_says a b k x y z s))

  no_location : (k j : Kind) (q : Place) (l : Left) → pattern cs l ≡ None → Says k j None (static cs (term.Load q k l))
  no_location k j q l e = subst (λ o. Says k j None (option_and_then (λ s. option_and_then (λ f. held_at cs s f) (first_of cs l)) o)) (sym e) nothing

  no_base : (k : Kind) (p : Place) (b : CoreBase) (ps : List CorePart) → ((xs : List Part) → value_base cells b xs ≡ None) → pattern cs (term_base b p) ≡ None → NamedTells p b ps k
  no_base k p b ps v e q = subst (λ o. Says k k o (static cs (term.Load q k (left_of p b ps)))) (sym (v (map (part_in (facts_of cells)) ps)))
      (no_location k k q (left_of p b ps) (parts_none cs ps (term_base b p) e))

  cell_tells : (p : Place) (n : ℕ) (c : Cell) → slice_get cells n ≡ Some c → found cs (steps_of (to.name_of c.name)) ≡ Some (cell_of c) → NamedTells p (roll-CoreBase (tree.Cell n)) [] c.kind
  cell_tells p n c e f q =
      subst (λ l. Says c.kind c.kind (value_base cells (roll-CoreBase (tree.Cell n)) []) (static cs (term.Load q c.kind l))) (sym (ap (λ f. f p) (cell_term n)))
      (subst (λ v. Says c.kind c.kind v (static cs (term.Load q c.kind (term.Cell p n)))) (sym (ap (λ f. f []) (base_value cells (tree.Cell n)))) (whole_cell_says cells h p n c e f))

  front_tells : (k : Kind) (p : Place) (name : CellName) (ps : List CorePart) → Pieces ps → IsArray cells k p name ps → NamedTells p (roll-CoreBase (tree.Prefix name)) ps k
  front_tells k p name ps d a q =
      let made_left = to.extended (term.Prefix p (to.name_of name)) (map (left_by cells h) d.list) in
      let same : left_of p (roll-CoreBase (tree.Prefix name)) ps ≡ made_left = ap (λ f. to.extended (f p) (map term_part ps)) (front_term name) ∙ ap (to.extended (term.Prefix p (to.name_of name))) d.terms in
      let there : behind cells p name ps ≡ front_at cells h p name d.list = ap (λ t. t.left) (taken_whole p (roll-CoreBase (tree.Prefix name)) ps) ∙ same in
      let value : value_base cells (roll-CoreBase (tree.Prefix name)) (map (part_in (facts_of cells)) ps) ≡ element.element (facts_of cells) (map (part_of cells h) d.list) name
      = ap (λ f. f (map (part_in (facts_of cells)) ps)) (base_value cells (tree.Prefix name)) ∙ ap (λ xs. element.element (facts_of cells) xs name) d.values in
      let said = front_says cells h k p name d.list a.is_name
      (λ steps c e f. a.kinds steps c (ap (pattern cs) there ∙ e) f)
      (λ c e. a.first c (ap (λ l. option_and_then (found cs) (first_of cs l)) there ∙ e))
      (λ steps e i. a.ends steps (ap (pattern cs) there ∙ e) (ap inside d.values ∙ i)) in
      subst (λ l. Says k k (value_base cells (roll-CoreBase (tree.Prefix name)) (map (part_in (facts_of cells)) ps)) (static cs (term.Load q k l))) (sym same)
      (subst (λ v. Says k k v (static cs (term.Load q k made_left))) (sym value) said)

  whole_load : (k : Kind) (p : Place) (b : CoreBase) (ps : List CorePart) → NamedTells p b ps k → LoadTells k (location p b ps None)
  whole_load k p b ps f q =
      subst (λ t. Says k (kind_of (to.picked q k (term.Load q (unwrap_or t.of k) t.left) t.pick)) (left_value (facts_of cells) (location p b ps None) k) (static cs (to.picked q k (term.Load q (unwrap_or t.of k) t.left) t.pick))) (sym (taken_whole p b ps))
      (subst (λ v. Says k k v (static cs (term.Load q k (left_of p b ps)))) (sym (left_whole cells p b ps k ∙ some_own (value_base cells b (map (part_in (facts_of cells)) ps)))) (f q))

  some_load : (j k : Kind) (p : Place) (b : CoreBase) (ps : List CorePart) (q : CorePick) → (term_pick q).of ≡ j → NamedTells p b ps j → PickTells j q k → LoadTells k (location p b ps (Some q))
  some_load j k p b ps r e f g q =
      subst (λ t. Says k (kind_of (to.picked q k (term.Load q (unwrap_or t.of k) t.left) t.pick)) (left_value (facts_of cells) (location p b ps (Some r)) k) (static cs (to.picked q k (term.Load q (unwrap_or t.of k) t.left) t.pick))) (sym (taken_some p b ps r))
      (subst (λ i. Says k (kind_of (to.picked q k (term.Load q i (left_of p b ps)) (term_pick r).pick)) (left_value (facts_of cells) (location p b ps (Some r)) k) (static cs (to.picked q k (term.Load q i (left_of p b ps)) (term_pick r).pick))) (sym e)
      (subst (λ v. Says k (kind_of (to.picked q k (term.Load q j (left_of p b ps)) (term_pick r).pick)) v (static cs (to.picked q k (term.Load q j (left_of p b ps)) (term_pick r).pick))) (sym (left_some cells p b ps r k))
      (g q (value_base cells b (map (part_in (facts_of cells)) ps)) (term.Load q j (left_of p b ps)) (f q))))

  picked_of : {j k : Kind} {q : CorePick} → IsPicked cells j q k → (term_pick q).of ≡ j
  picked_of (bit {j = j} {e = e} w) = ap (λ t. t.of) (bit_term j e)
  picked_of (range {j = j} a b x y z) = ap (λ t. t.of) (range_term j a b)

  none_pieces : Pieces []
  none_pieces = record { list = []; values = refl; terms = refl }

  member_pieces : (n : Name) (ps : List CorePart) → Pieces ps → Pieces (roll-CorePart (tree.Member n) ∷ ps)
  member_pieces n ps d = record {
    list = named n ∷ d.list;
    values = ap (λ x. x ∷ map (part_in (facts_of cells)) ps) (member_value cells n) ∙ ap (λ xs. element.Member n ∷ xs) d.values;
    terms = ap (λ x. x ∷ map term_part ps) (member_term n) ∙ ap (λ xs. (λ l. term.Member l n.0) ∷ xs) d.terms;
  }

  index_pieces : (size : ℕ) (e : CoreExpr) (ps : List CorePart) → Tells cells e → Pieces ps → Pieces (roll-CorePart (tree.Index size e) ∷ ps)
  index_pieces size e ps w d = record {
    list = indexed size e.kind (value_in (facts_of cells) e) (term_of e) w ∷ d.list;
    values = ap (λ x. x ∷ map (part_in (facts_of cells)) ps) (index_value cells size e) ∙ ap (λ xs. element.Element size (value_in (facts_of cells) e) ∷ xs) d.values;
    terms = ap (λ x. x ∷ map term_part ps) (index_term size e) ∙ ap (λ xs. (λ l. term.Index l size (term_of e)) ∷ xs) d.terms;
  }

  mutual
    tells : {e : CoreExpr} → IsWhole cells e → Tells cells e
    tells (literal {p = p} {k = k} w v f) = tells_made cells p k (tree.Lit w) (literal_says k w.bits v f)
    tells (load {p = p} {k = k} {l = l} w) = tells_made cells p k (tree.Load l) (load_tells w p)
    tells (read {p = p} {k = k} l) = tells_made cells p k (tree.Read l) (read_tells cs p k (unwrap_or (taken_of l).of k) (taken_of l).left (taken_of l).pick)
    tells (convert {p = p} {k = k} {e = e} v w) = tells_made cells p k (tree.Convert e) (convert_says k v (tells w))
    tells (unary {p = p} {k = k} {o = o} {a = a} r d w) = tells_made cells p k (tree.Operate o a None) (unary_says o k r (λ n e. d n (static_is a ∙ e)) (tells w))
    tells (binary {p = p} {k = k} {o = o} {a = a} {b = b} r d v w) = tells_made cells p k (tree.Operate o a (Some b)) (binary_says o k r (λ n e. d n (static_is b ∙ e)) (tells v) (tells w))
    tells (choose {p = p} {k = k} {t = t} {a = a} {b = b} v w x y) = tells_made cells p k (tree.Choose t a b) (choose_says k v (tells w) (tells x) (tells y))
    tells (pick {p = p} {k = k} {e = e} {q = q} w s) = tells_made cells p k (tree.Pick e q) (pick_tells s p (value_in (facts_of cells) e) (term_of e) (tells w))
    tells (join {p = p} {k = k} {e = e} {es = es} w s) = tells_made cells p k (tree.Join (e ∷ es)) (join_tells s p (value_in (facts_of cells) e) (term_of e) (tells w))

    pick_tells : {j k : Kind} {q : CorePick} → IsPicked cells j q k → PickTells j q k
    pick_tells (bit {j = j} {e = e} w) = bit_tells j e (tells w)
    pick_tells (range {j = j} {k = k} a b x y z) = range_tells j k a b x y z

    join_words : {j k : Kind} {es : List CoreExpr} → AreJoined cells j es k → (p : Place) (a : Kind) (v : Option Number) (t : Term) → Words j v (static cs t)
        → Words k (option_and_then (λ x. above_all x (map (value_in (facts_of cells)) es)) v) (static cs (to.joined_behind p a t (map term_of es)))
    join_words (last {k = k}) p a v t s = subst (λ o. Words k o (static cs t)) (sym (some_own v)) s
    join_words (next {j = j} {i = i} {k = k} {e = e} {es = es} w c b r) p a v t s =
        subst (λ o. Words k o (static cs (to.joined_behind p a (term.Join p a t (term_of e)) (map term_of es)))) (sym (above_on v (value_in (facts_of cells) e) (map (value_in (facts_of cells)) es)))
        (join_words r p a (option_and_then (λ x. option_and_then (λ y. above x y) (value_in (facts_of cells) e)) v) (term.Join p a t (term_of e)) (above_says i c b s (tells w)))

    join_tells : {j k : Kind} {es : List CoreExpr} → AreJoined cells j es k → (p : Place) (v : Option Number) (t : Term) → Says j (kind_of t) v (static cs t)
        → Says k (kind_of (to.joined_behind p k t (map term_of es))) (option_and_then (λ x. valued k x.word) (option_and_then (λ x. above_all x (map (value_in (facts_of cells)) es)) v))
        (static cs (to.joined_behind p k t (map term_of es)))
    join_tells (last {k = k}) p v t s = subst (λ o. Says k (kind_of t) (option_and_then (λ x. valued k x.word) o) (static cs t)) (sym (some_own v)) (alone_says s)
    join_tells (next {j = j} {i = i} {k = k} {e = e} {es = es} w c b r) p v t s =
        subst (λ q. Says k q (option_and_then (λ x. valued k x.word) (option_and_then (λ x. above_all x (map (value_in (facts_of cells)) (e ∷ es))) v)) (static cs (to.joined_behind p k (term.Join p k t (term_of e)) (map term_of es))))
        (sym (kind_joined cs p k (term.Join p k t (term_of e)) (map term_of es) refl))
        (subst (λ o. Says k k (option_and_then (λ x. valued k x.word) o) (static cs (to.joined_behind p k (term.Join p k t (term_of e)) (map term_of es)))) (sym (above_on v (value_in (facts_of cells) e) (map (value_in (facts_of cells)) es)))
        (whole_says (join_words r p k (option_and_then (λ x. option_and_then (λ y. above x y) (value_in (facts_of cells) e)) v) (term.Join p k t (term_of e)) (above_says i c b (as_word s) (tells w)))))

    load_tells : {k : Kind} {l : CoreLeft} → IsLoaded cells k l → LoadTells k l
    load_tells (all {p = p} {b = b} {ps = ps} {k = k} w) = whole_load k p b ps (named_tells w)
    load_tells (some {p = p} {b = b} {ps = ps} {q = q} {j = j} {k = k} w s) = some_load j k p b ps q (picked_of s) (named_tells w) (pick_tells s)

    named_tells : {k : Kind} {p : Place} {b : CoreBase} {ps : List CorePart} → IsNamed cells p b ps k → NamedTells p b ps k
    named_tells (cell {p = p} n c e f) = cell_tells p n c e f
    named_tells (front {k = k} {p = p} {name = name} {ps = ps} w a) = front_tells k p name ps (pieces w) a
    named_tells (follow {k = k} {p = p} l soft {ps = ps}) = no_base k p (roll-CoreBase (tree.Follow l soft)) ps (λ xs. ap (λ f. f xs) (base_value cells (tree.Follow l soft))) (ap (λ f. pattern cs (f p)) (follow_term l soft))
    named_tells (null {k = k} {p = p} {ps = ps}) = no_base k p (roll-CoreBase tree.Null) ps (λ xs. ap (λ f. f xs) (base_value cells tree.Null)) (ap (λ f. pattern cs (f p)) null_term)

    pieces : {ps : List CorePart} → AreParts cells ps → Pieces ps
    pieces none = none_pieces
    pieces (member n {ps = ps} w) = member_pieces n ps (pieces w)
    pieces (index size {e = e} {ps = ps} v w) = index_pieces size e ps (tells v) (pieces w)

  pub static_values : (e : CoreExpr) → IsWhole cells e → option_map (λ v. v.word) (static_of cells e) ≡ static cs (term_of e)
  static_values e w = ap (option_map (λ v. v.word)) (static_is e) ∙ same_word (tells w)
