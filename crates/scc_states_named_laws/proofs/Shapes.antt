-- The trees that stand for locations without indices.
use Rattle.std.proofs.Common.{◌≡◌, Bool, true, false, List, [], ◌∷◌, ◌++◌, map, Option, Some, None, refl, sym, ap, ◌∙◌, append_assoc}
use Rattle.scc_base.specs.declared.names.Name.{Name}
use Rattle.scc_core.specs.declared.expr.CoreExpr.{CoreExpr}
use Rattle.scc_core.specs.declared.expr.CoreExprNode.{CoreExprNode, fold-CoreExprNode}
use Rattle.scc_core.specs.declared.expr.CoreLeft.{CoreLeft, fold-roll-CoreLeft}
use Rattle.scc_core.specs.declared.expr.CoreBase.{CoreBase, out-CoreBase, fold-CoreBase, map-CoreBase, fold_out-CoreBase}
use Rattle.scc_core.specs.declared.expr.CorePart.{CorePart, out-CorePart, fold-CorePart, map-CorePart, fold_out-CorePart}
use Rattle.scc_core.specs.declared.expr.CorePick.{CorePick, out-CorePick, fold-CorePick, map-CorePick, fold_out-CorePick}
use Rattle.scc_core.specs.declared.expr.CoreBase.TheOpen.{CoreBase-F, CorePart-F, CorePick-F}
use Rattle.scc_core.specs.declared.expr.CoreBase.TheOpen as tree
use Rattle.scc_core.specs.Elements.{Facts, Part, Member}
use Rattle.scc_core.specs.Statics.{value_in, left_value, part_in, pick_in}
use Rattle.scc_core.specs.Statics as of
use Rattle.scc_core_view.specs.Terms.{term_of, taken_of}
use Rattle.scc_core_view.specs.Terms as to
use Rattle.scc_core_spec.specs.Term.{Term, Left, Pick}
use Rattle.scc_core_spec.specs.Term as term
use Rattle.scc_core_spec.specs.Named.{Step, Named}
use Rattle.scc_core_spec.specs.Static.{Cells, grown, pattern}
use Rattle.scc_states_named_laws.specs.Plain.{is_front, is_plain}

-- ---- layers

abbrev TheBase : Type 0
TheBase = CoreBase-F CoreBase CoreExprNode CorePart CorePick CoreExpr CoreLeft

abbrev ThePart : Type 0
ThePart = CorePart-F CoreBase CoreExprNode CorePart CorePick CoreExpr CoreLeft

abbrev ThePick : Type 0
ThePick = CorePick-F CoreBase CoreExprNode CorePart CorePick CoreExpr CoreLeft

abbrev pub term_node : CoreExprNode → to.Node
term_node = fold-CoreExprNode to.Base to.Node (Left → Left) to.Picking Term to.Taken to.base_node to.expr_node to.part_node to.pick_node to.expr_step to.left_step

abbrev pub term_base : CoreBase → to.Base
term_base = fold-CoreBase to.Base to.Node (Left → Left) to.Picking Term to.Taken to.base_node to.expr_node to.part_node to.pick_node to.expr_step to.left_step

abbrev pub term_part : CorePart → Left → Left
term_part = fold-CorePart to.Base to.Node (Left → Left) to.Picking Term to.Taken to.base_node to.expr_node to.part_node to.pick_node to.expr_step to.left_step

abbrev pub term_pick : CorePick → to.Picking
term_pick = fold-CorePick to.Base to.Node (Left → Left) to.Picking Term to.Taken to.base_node to.expr_node to.part_node to.pick_node to.expr_step to.left_step

abbrev base_seen : TheBase → to.Base
base_seen y = to.base_node (map-CoreBase CoreBase CoreExprNode CorePart CorePick CoreExpr CoreLeft to.Base to.Node (Left → Left) to.Picking Term to.Taken term_base term_node term_part term_pick term_of taken_of y)

pub base_by : (b : CoreBase) (y : TheBase) → out-CoreBase b ≡ y → term_base b ≡ base_seen y
base_by b y e = fold_out-CoreBase to.Base to.Node (Left → Left) to.Picking Term to.Taken to.base_node to.expr_node to.part_node to.pick_node to.expr_step to.left_step b ∙ ap base_seen e

abbrev part_seen : ThePart → Left → Left
part_seen y = to.part_node (map-CorePart CoreBase CoreExprNode CorePart CorePick CoreExpr CoreLeft to.Base to.Node (Left → Left) to.Picking Term to.Taken term_base term_node term_part term_pick term_of taken_of y)

pub part_by : (x : CorePart) (y : ThePart) → out-CorePart x ≡ y → term_part x ≡ part_seen y
part_by x y e = fold_out-CorePart to.Base to.Node (Left → Left) to.Picking Term to.Taken to.base_node to.expr_node to.part_node to.pick_node to.expr_step to.left_step x ∙ ap part_seen e

abbrev pick_seen : ThePick → to.Picking
pick_seen y = to.pick_node (map-CorePick CoreBase CoreExprNode CorePart CorePick CoreExpr CoreLeft to.Base to.Node (Left → Left) to.Picking Term to.Taken term_base term_node term_part term_pick term_of taken_of y)

pub pick_by : (q : CorePick) (y : ThePick) → out-CorePick q ≡ y → term_pick q ≡ pick_seen y
pick_by q y e = fold_out-CorePick to.Base to.Node (Left → Left) to.Picking Term to.Taken to.base_node to.expr_node to.part_node to.pick_node to.expr_step to.left_step q ∙ ap pick_seen e

module _ (g : Facts) where
  abbrev value_base : CoreBase → of.Base
  value_base = fold-CoreBase of.Base of.Node Part of.Pick of.Expr of.Left (of.base_node g) of.expr_node of.part_node of.pick_node of.expr_step of.left_step

  abbrev value_node : CoreExprNode → of.Node
  value_node = fold-CoreExprNode of.Base of.Node Part of.Pick of.Expr of.Left (of.base_node g) of.expr_node of.part_node of.pick_node of.expr_step of.left_step

  abbrev part_valued : ThePart → Part
  part_valued y = of.part_node (map-CorePart CoreBase CoreExprNode CorePart CorePick CoreExpr CoreLeft of.Base of.Node Part of.Pick of.Expr of.Left value_base value_node (part_in g) (pick_in g) (value_in g) (left_value g) y)

  value_by : (x : CorePart) (y : ThePart) → out-CorePart x ≡ y → part_in g x ≡ part_valued y
  value_by x y e = fold_out-CorePart of.Base of.Node Part of.Pick of.Expr of.Left (of.base_node g) of.expr_node of.part_node of.pick_node of.expr_step of.left_step x ∙ ap part_valued e

-- ---- locations

pub left_is : (l : CoreLeft) → (taken_of l).left ≡ to.extended (term_base l.base l.place) (map term_part l.parts)
left_is l =
    ap (λ t. t.left)
    (fold-roll-CoreLeft to.Base to.Node (Left → Left) to.Picking Term to.Taken to.base_node to.expr_node to.part_node to.pick_node to.expr_step to.left_step
    (record { place = l.place; base = l.base; parts = l.parts; pick = l.pick }))

abbrev with_pick : CoreLeft → Option CorePick → CoreLeft
with_pick l o = record { place = l.place; base = l.base; parts = l.parts; pick = o }

pub whole_pick : (l : CoreLeft) → l.pick ≡ None → (taken_of l).pick ≡ term.Whole
whole_pick l e =
    ap (λ o. (taken_of (with_pick l o)).pick) e
    ∙ ap (λ t. t.pick)
    (fold-roll-CoreLeft to.Base to.Node (Left → Left) to.Picking Term to.Taken to.base_node to.expr_node to.part_node to.pick_node to.expr_step to.left_step
    (record { place = l.place; base = l.base; parts = l.parts; pick = None }))

pub some_pick : (l : CoreLeft) (q : CorePick) → l.pick ≡ Some q → (taken_of l).pick ≡ (term_pick q).pick
some_pick l q e =
    ap (λ o. (taken_of (with_pick l o)).pick) e
    ∙ ap (λ t. t.pick)
    (fold-roll-CoreLeft to.Base to.Node (Left → Left) to.Picking Term to.Taken to.base_node to.expr_node to.part_node to.pick_node to.expr_step to.left_step
    (record { place = l.place; base = l.base; parts = l.parts; pick = Some q }))

-- ---- members alone

abbrev pub behind_name : Name → Left → Left
behind_name n l = term.Member l n.0

-- These parts are the members of these names.
pub record AreMembers (ps : List CorePart) (q : List Name) : Type 0 where
  pub terms : map term_part ps ≡ map behind_name q
  pub values : (g : Facts) → map (part_in g) ps ≡ map Member q

not_front : (ps : List CorePart) (l : Left) → is_front l ≡ false → is_front (to.extended l (map term_part ps)) ≡ false
not_front [] l h = h
not_front (x ∷ ps) l h = by (not_front ps (term_part x l)) (out-CorePart x) refl
  where
    at : (is_front (term_part x l) ≡ false → is_front (to.extended (term_part x l) (map term_part ps)) ≡ false) → (f : Left → Left) → term_part x ≡ f → is_front (f l) ≡ false → is_front (to.extended (term_part x l) (map term_part ps)) ≡ false
    at r f e k = r (ap (λ z. is_front (z l)) e ∙ k)

    by : (is_front (term_part x l) ≡ false → is_front (to.extended (term_part x l) (map term_part ps)) ≡ false) → (y : ThePart) → out-CorePart x ≡ y → is_front (to.extended (term_part x l) (map term_part ps)) ≡ false
    by r (tree.Member n) e = at r _ (part_by x (tree.Member n) e) h
    by r (tree.Index size i) e = at r _ (part_by x (tree.Index size i) e) refl

never : (a : Bool) → a ≡ false → a ≡ true → ⊥
never a h k = absurd cc

pub members : (ps : List CorePart) (l : Left) → is_front (to.extended l (map term_part ps)) ≡ true → (q : List Name) × AreMembers ps q
members [] l h = ([], record { terms = refl; values = λ g. refl })
members (x ∷ ps) l h = by (out-CorePart x) refl (members ps (term_part x l) h)
  where
    by : (y : ThePart) → out-CorePart x ≡ y → (q : List Name) × AreMembers ps q → (q : List Name) × AreMembers (x ∷ ps) q
    by (tree.Member n) e r = (
      n ∷ r.0,
      record {
        terms = ap (λ f. f ∷ map term_part ps) (part_by x (tree.Member n) e) ∙ ap (λ fs. behind_name n ∷ fs) r.1.terms;
        values = λ g. ap (λ v. v ∷ map (part_in g) ps) (value_by g x (tree.Member n) e) ∙ ap (λ vs. Member n ∷ vs) (r.1.values g);
      },
    )
    by (tree.Index size i) e r =
        absurd (never (is_front (to.extended (term_part x l) (map term_part ps))) (not_front ps (term_part x l) (ap (λ f. is_front (f l)) (part_by x (tree.Index size i) e))) h)

-- what is behind a front part begins with it
pub front_first : (ps : List CorePart) (l : Left) → is_front (to.extended l (map term_part ps)) ≡ true → is_front l ≡ true
front_first ps l h = by (is_front l) refl
  where
    by : (b : Bool) → is_front l ≡ b → is_front l ≡ true
    by true e = e
    by false e = absurd (never (is_front (to.extended l (map term_part ps))) (not_front ps l e) h)

-- a location without indices is as its front where something stands behind it
pub plain_front : (ps : List CorePart) (x : CorePart) (l : Left) → is_plain (to.extended l (map term_part (x ∷ ps))) ≡ is_front (to.extended l (map term_part (x ∷ ps)))
plain_front [] x l = by (out-CorePart x) refl
  where
    by : (y : ThePart) → out-CorePart x ≡ y → is_plain (term_part x l) ≡ is_front (term_part x l)
    by (tree.Member n) e = ap (λ f. is_plain (f l)) (part_by x (tree.Member n) e) ∙ sym (ap (λ f. is_front (f l)) (part_by x (tree.Member n) e))
    by (tree.Index size i) e = ap (λ f. is_plain (f l)) (part_by x (tree.Index size i) e) ∙ sym (ap (λ f. is_front (f l)) (part_by x (tree.Index size i) e))
plain_front (y ∷ ps) x l = plain_front ps y (term_part x l)

-- ---- their steps

abbrev pub steps_behind : List Name → List Step
steps_behind q = map (λ n. Named n.0) q

no_more : {A : Type 0} (xs : List A) → xs ++ [] ≡ xs
no_more [] = refl
no_more (x ∷ xs) = ap (λ ys. x ∷ ys) (no_more xs)

pub pattern_is : (cs : Cells) (q : List Name) (l : Left) (s : List Step) → pattern cs l ≡ Some s → pattern cs (to.extended l (map behind_name q)) ≡ Some (s ++ steps_behind q)
pattern_is cs [] l s h = h ∙ ap Some (sym (no_more s))
pattern_is cs (n ∷ q) l s h =
    pattern_is cs q (term.Member l n.0) (s ++ Named n.0 ∷ []) (ap (λ o. grown o (Named n.0)) h) ∙ ap Some (append_assoc s (Named n.0 ∷ []) (steps_behind q))
