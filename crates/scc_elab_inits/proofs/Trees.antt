-- What is declared where left sides of trees lead is what the definitions say of their terms: by induction over trees.
use Rattle.std.proofs.Common.{◌≡◌, refl, sym, ap, subst, ◌∙◌, ℕ, Bool, true, false, List, [], ◌∷◌, map, Option, Some, None, option_map, option_and_then, slice_get, unwrap_or, Ok, Err}
use Rattle.std.proofs.lemmas.Option.{slice_get-map}
use Rattle.std.specs.Prelude.{Result, IfOk}
use Rattle.scc_base.specs.declared.refusal.Place.{Place}
use Rattle.scc_plain_tree.specs.declared.program.Plain.{Plain as Tree}
use Rattle.scc_plain_tree.specs.declared.program.PlainFunction.{PlainFunction}
use Rattle.scc_plain_tree.specs.declared.program.PlainClass.{PlainClass}
use Rattle.scc_plain_tree.specs.declared.program.PlainMember.{PlainMember}
use Rattle.scc_plain_tree.specs.declared.program.Base.{Base}
use Rattle.scc_plain_tree.specs.declared.program.Base.TheVariants as held
use Rattle.scc_plain_tree.specs.declared.expr.PlainExpr.{PlainExpr, fold-PlainExpr}
use Rattle.scc_plain_tree.specs.declared.expr.PlainExprNode.{PlainExprNode, fold-PlainExprNode}
use Rattle.scc_plain_tree.specs.declared.expr.PlainPick.{PlainPick, fold-PlainPick}
use Rattle.scc_plain_tree.specs.declared.expr.PlainLeft.{PlainLeft, map-PlainLeft, fold-roll-PlainLeft, ind-PlainLeft}
use Rattle.scc_plain_tree.specs.declared.expr.PlainBase.{PlainBase, roll-PlainBase, map-PlainBase, fold-PlainBase, fold-roll-PlainBase}
use Rattle.scc_plain_tree.specs.declared.expr.PlainPart.{PlainPart, roll-PlainPart, map-PlainPart, fold-PlainPart, fold-roll-PlainPart}
use Rattle.scc_plain_tree.specs.declared.expr.PlainBase.TheOpen.{PlainBase-F, PlainPart-F, PlainLeft-F}
use Rattle.scc_plain_tree.specs.declared.expr.PlainBase.TheOpen as tree
use Rattle.scc_elab_spec.specs.Term.{Term, Left}
use Rattle.scc_elab_spec.specs.Term as term
use Rattle.scc_elab_spec.specs.Program.{Class, Member}
use Rattle.scc_elab_spec.specs.Program as plain
use Rattle.scc_elab_spec.specs.Types.{base_at, base_of_member, declared_at, member_at}
use Rattle.scc_elab_spec.specs.Construct.{ends_in_vector}
use Rattle.scc_elab_spec.specs.Inits.{first_member}
use Rattle.scc_elab_spec.specs.Grown.{Grown, nothing}
use Rattle.scc_semantics.specs.Location.{Part}
use Rattle.scc_elab_spec.specs.Types as types
use Rattle.scc_plain_view.specs.Codes.{base_of as base_view}
use Rattle.scc_plain_view.specs.Plains.{plain_of, function_of, class_of, member_of}
use Rattle.scc_plain_view.specs.Terms as to
use Rattle.scc_plain_view.specs.Terms.{term_of, taken_of, left_of}
use Rattle.scc_elab_inits.specs.declared.lefts.Spot.{Spot}
use Rattle.scc_elab_inits.specs.Lefts as seen
use Rattle.scc_elab_inits.specs.Lefts.{SeenBase, SeenLeft, SeenPart, Unseen, walked, first_of, first_if, declared}
use Rattle.scc_elab_inits.specs.Sites.{site}

abbrev is_this : Left → Bool
is_this (term.This p) = true
is_this (term.Local p n) = false
is_this (term.Answer p n) = false
is_this (term.Follow p l) = false
is_this (term.Member l n) = false
is_this (term.Index l e) = false

-- a member of what isn't the object at hand begins as that does
member_first : (n : ℕ) (l : Left) → is_this l ≡ false → first_member (term.Member l n) ≡ first_member l
member_first n (term.This p) e = cc
member_first n (term.Local p m) e = refl
member_first n (term.Answer p m) e = refl
member_first n (term.Follow p l) e = refl
member_first n (term.Member l m) e = refl
member_first n (term.Index l i) e = refl

module _ (t : Tree) (f : PlainFunction) (o : ℕ) (path : List Part) (g : Grown) where
  -- what is seen of a location is what the definitions say there
  abbrev Stands : Left → Spot → Type 0
  Stands l s = (base_at (plain_of t) (function_of f) l ≡ option_map base_view s.base) × (ends_in_vector (site t f o path g) l ≡ s.vector)

  class_is : (b : Option Base) → types.class_in (option_map base_view b) ≡ seen.class_in b
  class_is None = refl
  class_is (Some (held.Number k)) = refl
  class_is (Some (held.Class c)) = refl
  class_is (Some (held.Input k)) = refl
  class_is (Some (held.Output k)) = refl
  class_is (Some (held.Signal k)) = refl
  class_is (Some held.ModuleName) = refl

  member_is : (c : Option ℕ) (n : ℕ) → member_at (plain_of t) c n ≡ option_map member_of (seen.member_in t c n)
  member_is None n = refl
  member_is (Some c) n = ap (option_and_then (λ (k : Class). slice_get k.members n)) (slice_get-map class_of t.classes c) ∙ by (slice_get t.classes c)
    where
      by : (o : Option PlainClass) → option_and_then (λ (k : Class). slice_get k.members n) (option_map class_of o) ≡ option_map member_of (option_and_then (λ k. slice_get k.members n) o)
      by None = refl
      by (Some k) = slice_get-map member_of k.members n

  held_is : (m : Option PlainMember) → base_of_member (option_map member_of m) ≡ option_map base_view (declared m).base
  held_is None = refl
  held_is (Some m) = refl

  vector_there : (m : Option PlainMember) → unwrap_or (option_map (λ (m : Member). m.shape.vector) (option_map member_of m)) false ≡ (declared m).vector
  vector_there None = refl
  vector_there (Some m) = refl

  member_stands : (n : ℕ) (l : Left) (s : Spot) → Stands l s → Stands (term.Member l n) (seen.member t n s)
  member_stands n l s h =
      let c = ap types.class_in h.0 ∙ class_is s.base in
      let d = ap (λ c. member_at (plain_of t) c n) c ∙ member_is (seen.class_in s.base) n in (
        ap base_of_member d ∙ held_is (seen.member_in t (seen.class_in s.base) n),
        ap (λ m. unwrap_or (option_map (λ (m : Member). m.shape.vector) m) false) d ∙ vector_there (seen.member_in t (seen.class_in s.base) n),
      )

  -- ---- folds over the parts of trees

  abbrev term_base : PlainBase → to.Base
  term_base = fold-PlainBase to.Base to.Node (Left → Left) to.Picking Term to.Taken to.base_node to.expr_node to.part_node to.pick_node to.expr_step to.left_step

  abbrev term_part : PlainPart → Left → Left
  term_part = fold-PlainPart to.Base to.Node (Left → Left) to.Picking Term to.Taken to.base_node to.expr_node to.part_node to.pick_node to.expr_step to.left_step

  abbrev term_node : PlainExprNode → to.Node
  term_node = fold-PlainExprNode to.Base to.Node (Left → Left) to.Picking Term to.Taken to.base_node to.expr_node to.part_node to.pick_node to.expr_step to.left_step

  abbrev term_pick : PlainPick → to.Picking
  term_pick = fold-PlainPick to.Base to.Node (Left → Left) to.Picking Term to.Taken to.base_node to.expr_node to.part_node to.pick_node to.expr_step to.left_step

  abbrev seen_node : PlainExprNode → Unseen
  seen_node = fold-PlainExprNode SeenBase Unseen SeenPart Unseen Unseen SeenLeft (seen.base_node t f) seen.expr_node (seen.part_node t) seen.pick_node seen.expr_step seen.left_step

  abbrev seen_pick : PlainPick → Unseen
  seen_pick = fold-PlainPick SeenBase Unseen SeenPart Unseen Unseen SeenLeft (seen.base_node t f) seen.expr_node (seen.part_node t) seen.pick_node seen.expr_step seen.left_step

  abbrev seen_expr : PlainExpr → Unseen
  seen_expr = fold-PlainExpr SeenBase Unseen SeenPart Unseen Unseen SeenLeft (seen.base_node t f) seen.expr_node (seen.part_node t) seen.pick_node seen.expr_step seen.left_step

  abbrev BaseMeans : SeenBase → to.Base → Type 0
  BaseMeans b v = (p : Place) → Stands (v p) b.known × (is_this (v p) ≡ b.is_this) × (first_member (v p) ≡ None)

  abbrev PartMeans : SeenPart → (Left → Left) → Type 0
  PartMeans q v = ((l : Left) (s : Spot) → Stands l s → Stands (v l) (q.step s)) × ((l : Left) → is_this (v l) ≡ false) × ((l : Left) → is_this l ≡ false → first_member (v l) ≡ first_member l) × ((l : Left) → is_this l ≡ true → first_member (v l) ≡ q.first)

  abbrev LeftMeans : SeenLeft → to.Taken → Type 0
  LeftMeans l v = Stands v.left l.at × (first_member v.left ≡ l.first)

  abbrev BaseHolds : PlainBase → Type 0
  BaseHolds b = BaseMeans (seen.base t f b) (term_base b)

  abbrev PartHolds : PlainPart → Type 0
  PartHolds q = PartMeans (seen.part t f q) (term_part q)

  abbrev LeftHolds : PlainLeft → Type 0
  LeftHolds l = LeftMeans (seen.left t f l) (taken_of l)

  abbrev None_holds : {A : Type 0} → A → Type 0
  None_holds a = Unit {0}

  local_stands : (n : ℕ) (p : Place) → Stands (term.Local p n) (declared (slice_get f.locals n))
  local_stands n p = (
    ap base_of_member (slice_get-map member_of f.locals n) ∙ held_is (slice_get f.locals n),
    ap (λ m. unwrap_or (option_map (λ (m : Member). m.shape.vector) m) false) (slice_get-map member_of f.locals n) ∙ vector_there (slice_get f.locals n),
  )

  this_stands : (o : Option ℕ) → option_map plain.OfClass o ≡ option_map base_view (option_map held.Class o)
  this_stands None = refl
  this_stands (Some c) = refl

  this_first : (n : ℕ) (l : Left) → is_this l ≡ true → first_member (term.Member l n) ≡ Some n
  this_first n (term.This p) e = refl
  this_first n (term.Local p m) e = cc
  this_first n (term.Answer p m) e = cc
  this_first n (term.Follow p l) e = cc
  this_first n (term.Member l m) e = cc
  this_first n (term.Index l i) e = cc

  none_first : (l : Left) → is_this l ≡ true → first_member l ≡ None
  none_first (term.This p) e = refl
  none_first (term.Local p m) e = cc
  none_first (term.Answer p m) e = cc
  none_first (term.Follow p l) e = cc
  none_first (term.Member l m) e = cc
  none_first (term.Index l i) e = cc

  module _ (B N Q C E L : Type 0) (bv : B → PlainBase) (nv : N → PlainExprNode) (qv : Q → PlainPart) (cv : C → PlainPick) (ev : E → PlainExpr) (lv : L → PlainLeft)
      (bh : (b : B) → BaseHolds (bv b)) (qh : (q : Q) → PartHolds (qv q)) (lh : (l : L) → LeftHolds (lv l)) where
    abbrev inner_base : PlainBase-F B N Q C E L → PlainBase-F PlainBase PlainExprNode PlainPart PlainPick PlainExpr PlainLeft
    inner_base = map-PlainBase B N Q C E L PlainBase PlainExprNode PlainPart PlainPick PlainExpr PlainLeft bv nv qv cv ev lv

    abbrev inner_part : PlainPart-F B N Q C E L → PlainPart-F PlainBase PlainExprNode PlainPart PlainPick PlainExpr PlainLeft
    inner_part = map-PlainPart B N Q C E L PlainBase PlainExprNode PlainPart PlainPick PlainExpr PlainLeft bv nv qv cv ev lv

    abbrev as_left : PlainLeft-F PlainBase PlainExprNode PlainPart PlainPick PlainExpr PlainLeft → PlainLeft
    as_left z = record { place = z.place; base = z.base; parts = z.parts; pick = z.pick }

    abbrev inner_left : PlainLeft-F B N Q C E L → PlainLeft
    inner_left y = as_left (map-PlainLeft B N Q C E L PlainBase PlainExprNode PlainPart PlainPick PlainExpr PlainLeft bv nv qv cv ev lv y)

    base_by : (y : PlainBase-F B N Q C E L) → BaseMeans
        (seen.base_node t f (map-PlainBase PlainBase PlainExprNode PlainPart PlainPick PlainExpr PlainLeft SeenBase Unseen SeenPart Unseen Unseen SeenLeft (seen.base t f) seen_node (seen.part t f) seen_pick seen_expr (seen.left t f) (inner_base y)))
        (to.base_node (map-PlainBase PlainBase PlainExprNode PlainPart PlainPick PlainExpr PlainLeft to.Base to.Node (Left → Left) to.Picking Term to.Taken term_base term_node term_part term_pick term_of taken_of (inner_base y)))
    base_by (tree.Local n) p = (local_stands n p, refl, refl)
    base_by tree.This p = ((this_stands f.class, refl), refl, refl)
    base_by (tree.Answer n) p = ((refl, refl), refl, refl)
    base_by (tree.Follow l) p = (((lh l).0.0, refl), refl, refl)

    base_holds : (y : PlainBase-F B N Q C E L) → BaseHolds (roll-PlainBase (inner_base y))
    base_holds y = subst (λ v. BaseMeans (seen.base t f (roll-PlainBase (inner_base y))) v) (sym (fold-roll-PlainBase to.Base to.Node (Left → Left) to.Picking Term to.Taken to.base_node to.expr_node to.part_node to.pick_node to.expr_step to.left_step (inner_base y)))
        (subst (λ n. BaseMeans n (to.base_node (map-PlainBase PlainBase PlainExprNode PlainPart PlainPick PlainExpr PlainLeft to.Base to.Node (Left → Left) to.Picking Term to.Taken term_base term_node term_part term_pick term_of taken_of (inner_base y))))
        (sym (fold-roll-PlainBase SeenBase Unseen SeenPart Unseen Unseen SeenLeft (seen.base_node t f) seen.expr_node (seen.part_node t) seen.pick_node seen.expr_step seen.left_step (inner_base y))) (base_by y))

    part_by : (y : PlainPart-F B N Q C E L) → PartMeans
        (seen.part_node t (map-PlainPart PlainBase PlainExprNode PlainPart PlainPick PlainExpr PlainLeft SeenBase Unseen SeenPart Unseen Unseen SeenLeft (seen.base t f) seen_node (seen.part t f) seen_pick seen_expr (seen.left t f) (inner_part y)))
        (to.part_node (map-PlainPart PlainBase PlainExprNode PlainPart PlainPick PlainExpr PlainLeft to.Base to.Node (Left → Left) to.Picking Term to.Taken term_base term_node term_part term_pick term_of taken_of (inner_part y)))
    part_by (tree.Member n) = (member_stands n, (λ l. refl), member_first n, this_first n)
    part_by (tree.Index e) = ((λ l s h. h), (λ l. refl), (λ l h. refl), none_first)

    part_holds : (y : PlainPart-F B N Q C E L) → PartHolds (roll-PlainPart (inner_part y))
    part_holds y = subst (λ v. PartMeans (seen.part t f (roll-PlainPart (inner_part y))) v) (sym (fold-roll-PlainPart to.Base to.Node (Left → Left) to.Picking Term to.Taken to.base_node to.expr_node to.part_node to.pick_node to.expr_step to.left_step (inner_part y)))
        (subst (λ n. PartMeans n (to.part_node (map-PlainPart PlainBase PlainExprNode PlainPart PlainPick PlainExpr PlainLeft to.Base to.Node (Left → Left) to.Picking Term to.Taken term_base term_node term_part term_pick term_of taken_of (inner_part y))))
        (sym (fold-roll-PlainPart SeenBase Unseen SeenPart Unseen Unseen SeenLeft (seen.base_node t f) seen.expr_node (seen.part_node t) seen.pick_node seen.expr_step seen.left_step (inner_part y))) (part_by y))

    walked_stands : (qs : List Q) (l : Left) (s : Spot) → Stands l s → Stands (to.extended l (map term_part (map qv qs))) (walked (map (seen.part t f) (map qv qs)) s)
    walked_stands [] l s h = h
    walked_stands (q ∷ qs) l s h = walked_stands qs (term_part (qv q) l) ((seen.part t f (qv q)).step s) ((qh q).0 l s h)

    walked_first : (qs : List Q) (l : Left) → is_this l ≡ false → first_member (to.extended l (map term_part (map qv qs))) ≡ first_member l
    walked_first [] l h = refl
    walked_first (q ∷ qs) l h = walked_first qs (term_part (qv q) l) ((qh q).1 l) ∙ (qh q).2 l h

    begun_first : (qs : List Q) (l : Left) (b : Bool) → is_this l ≡ b → first_member l ≡ None → first_member (to.extended l (map term_part (map qv qs))) ≡ first_if b (map (seen.part t f) (map qv qs))
    begun_first qs l false h n = walked_first qs l h ∙ n
    begun_first [] l true h n = n
    begun_first (q ∷ qs) l true h n = walked_first qs (term_part (qv q) l) ((qh q).1 l) ∙ (qh q).3 l h

    left_by : (q : Place) (b : B) (qs : List Q) (c : Option to.Picking) (d : Option Unseen) → LeftMeans
        (seen.left_step (record { place = q; base = seen.base t f (bv b); parts = map (seen.part t f) (map qv qs); pick = d }))
        (to.left_step (record { place = q; base = term_base (bv b); parts = map term_part (map qv qs); pick = c }))
    left_by q b qs c d = (walked_stands qs (term_base (bv b) q) (seen.base t f (bv b)).known (bh b q).0, begun_first qs (term_base (bv b) q) (seen.base t f (bv b)).is_this (bh b q).1 (bh b q).2)

    left_holds : (q : Place) (b : B) (qs : List Q) (c : Option C) → LeftHolds (inner_left (record { place = q; base = b; parts = qs; pick = c }))
    left_holds q b qs None = subst (λ v. LeftMeans (seen.left t f (record { place = q; base = bv b; parts = map qv qs; pick = None })) v)
        (sym (fold-roll-PlainLeft to.Base to.Node (Left → Left) to.Picking Term to.Taken to.base_node to.expr_node to.part_node to.pick_node to.expr_step to.left_step (record { place = q; base = bv b; parts = map qv qs; pick = None })))
        (subst (λ n. LeftMeans n (to.left_step (record { place = q; base = term_base (bv b); parts = map term_part (map qv qs); pick = None })))
        (sym (fold-roll-PlainLeft SeenBase Unseen SeenPart Unseen Unseen SeenLeft (seen.base_node t f) seen.expr_node (seen.part_node t) seen.pick_node seen.expr_step seen.left_step (record { place = q; base = bv b; parts = map qv qs; pick = None })))
        (left_by q b qs None None))
    left_holds q b qs (Some c) = subst (λ v. LeftMeans (seen.left t f (record { place = q; base = bv b; parts = map qv qs; pick = Some (cv c) })) v)
        (sym (fold-roll-PlainLeft to.Base to.Node (Left → Left) to.Picking Term to.Taken to.base_node to.expr_node to.part_node to.pick_node to.expr_step to.left_step (record { place = q; base = bv b; parts = map qv qs; pick = Some (cv c) })))
        (subst (λ n. LeftMeans n (to.left_step (record { place = q; base = term_base (bv b); parts = map term_part (map qv qs); pick = Some (term_pick (cv c)) })))
        (sym (fold-roll-PlainLeft SeenBase Unseen SeenPart Unseen Unseen SeenLeft (seen.base_node t f) seen.expr_node (seen.part_node t) seen.pick_node seen.expr_step seen.left_step (record { place = q; base = bv b; parts = map qv qs; pick = Some (cv c) })))
        (left_by q b qs (Some (term_pick (cv c))) (Some tt)))

  abbrev OfBase : Type 0
  OfBase = (b : PlainBase) × BaseHolds b

  abbrev OfNode : Type 0
  OfNode = (n : PlainExprNode) × Unit {0}

  abbrev OfPart : Type 0
  OfPart = (q : PlainPart) × PartHolds q

  abbrev OfPick : Type 0
  OfPick = (c : PlainPick) × Unit {0}

  abbrev OfExpr : Type 0
  OfExpr = (e : PlainExpr) × Unit {0}

  abbrev OfLeft : Type 0
  OfLeft = (l : PlainLeft) × LeftHolds l

  by_left : (l : PlainLeft) → LeftHolds l
  by_left = ind-PlainLeft BaseHolds (λ n. Unit {0}) PartHolds (λ c. Unit {0}) (λ e. Unit {0}) LeftHolds
      (λ x y is. subst (λ z. BaseHolds (roll-PlainBase z)) is (base_holds OfBase OfNode OfPart OfPick OfExpr OfLeft (λ e. e.0) (λ e. e.0) (λ e. e.0) (λ e. e.0) (λ e. e.0) (λ e. e.0) (λ e. e.1) (λ e. e.1) (λ e. e.1) y))
      (λ x y is. tt)
      (λ x y is. subst (λ z. PartHolds (roll-PlainPart z)) is (part_holds OfBase OfNode OfPart OfPick OfExpr OfLeft (λ e. e.0) (λ e. e.0) (λ e. e.0) (λ e. e.0) (λ e. e.0) (λ e. e.0) (λ e. e.1) (λ e. e.1) (λ e. e.1) y))
      (λ x y is. tt)
      (λ x y is. tt)
      (λ x y is. subst (λ z. LeftHolds (record { place = z.place; base = z.base; parts = z.parts; pick = z.pick })) is (left_holds OfBase OfNode OfPart OfPick OfExpr OfLeft (λ e. e.0) (λ e. e.0) (λ e. e.0) (λ e. e.0) (λ e. e.0) (λ e. e.0) (λ e. e.1) (λ e. e.1) (λ e. e.1) y.place y.base y.parts y.pick))

pub vector_is : (t : Tree) (f : PlainFunction) (l : PlainLeft) (s : Spot) → s ≡ (seen.left t f l).at → (o : ℕ) (q : List Part) (g : Grown) → s.vector ≡ ends_in_vector (site t f o q g) (left_of l)
vector_is t f l s e o q g = ap (λ z. z.vector) e ∙ sym (by_left t f o q g l).0.1

left_first : (t : Tree) (f : PlainFunction) (l : PlainLeft) → (seen.left t f l).first ≡ first_if (seen.base t f l.base).is_this (map (seen.part t f) l.parts)
left_first t f l = ap (λ z. z.first) (fold-roll-PlainLeft SeenBase Unseen SeenPart Unseen Unseen SeenLeft (seen.base_node t f) seen.expr_node (seen.part_node t) seen.pick_node seen.expr_step seen.left_step (record { place = l.place; base = l.base; parts = l.parts; pick = l.pick }))

pub first_when : (t : Tree) (f : PlainFunction) (l : PlainLeft) (b : Bool) (m : Option ℕ) → b ≡ (seen.base t f l.base).is_this → m ≡ first_if b (map (seen.part t f) l.parts) → m ≡ (seen.left t f l).first
first_when t f l b m e d = d ∙ ap (λ c. first_if c (map (seen.part t f) l.parts)) e ∙ sym (left_first t f l)

-- of a program and a function nothing is asked
no_tree : Tree
no_tree = record { classes = []; functions = []; top = 0 }

no_function : PlainFunction
no_function = record { name = record { 0 = 0 }; place = record { file = 0; at = 0 }; class = None; params = 0; locals = []; result = None; inits = []; body = [] }

pub first_is : (l : PlainLeft) (m : Option ℕ) → ((t : Tree) (f : PlainFunction) → m ≡ (seen.left t f l).first) → m ≡ first_member (left_of l)
first_is l m e = e no_tree no_function ∙ sym (by_left no_tree no_function 0 [] nothing l).1
