-- Walks as the code makes them of trees are those of the definitions.
use Rattle.std.proofs.Common.{◌≡◌, refl, sym, ap, subst, ◌∙◌, arith, ℕ, ◌<◌, Bool, true, false, not, ◌||◌, nat_eq, if◌then◌else◌, List, [], ◌∷◌, ◌++◌, map, Option, Some, None, option_map, unwrap_or, is_some}
use Rattle.scc_base.specs.declared.code.Code.TheVariants as reason
use Rattle.scc_base.specs.declared.names.Name.{Name}
use Rattle.scc_base.specs.declared.refusal.Place.{Place}
use Rattle.scc_base.specs.declared.refusal.Refusal.{Refusal}
use Rattle.scc_bits_kinds.specs.declared.kind.Kind.{Kind}
use Rattle.scc_bits_kinds.specs.declared.op.Op.{Op}
use Rattle.scc_core.specs.declared.expr.CoreBase.{CoreBase, fold-roll-CoreBase, roll-CoreBase}
use Rattle.scc_core.specs.declared.expr.CoreBase.TheOpen as tree
use Rattle.scc_core.specs.declared.expr.CoreExpr.{CoreExpr, fold-roll-CoreExpr}
use Rattle.scc_core.specs.declared.expr.CoreExprNode.{CoreExprNode, fold-roll-CoreExprNode, map-CoreExprNode, roll-CoreExprNode}
use Rattle.scc_core.specs.declared.expr.CoreLeft.{CoreLeft, fold-roll-CoreLeft}
use Rattle.scc_core.specs.declared.expr.CorePart.{CorePart, fold-roll-CorePart, map-CorePart, roll-CorePart}
use Rattle.scc_core.specs.declared.expr.CorePick.{CorePick, fold-roll-CorePick, roll-CorePick}
use Rattle.scc_core.specs.declared.program.CellName.{CellName}
use Rattle.scc_core.specs.declared.program.VectorSize2.{VectorSize2}
use Rattle.scc_core_spec.specs.First.{refused}
use Rattle.scc_core_spec.specs.Fold as fold
use Rattle.scc_core_spec.specs.Named.{Step, chooses_object, is_open, fits, path_steps}
use Rattle.scc_core_spec.specs.Resolved.{Leads, Tried, Made, Stopped, and_made, behind, looked, made_map, or_null, placed, pointed, resolved, sure, walked}
use Rattle.scc_core_spec.specs.Static.{pattern}
use Rattle.scc_core_spec.specs.Unpointed.{aimed, resolved_left, resolved_pick}
use Rattle.scc_core_spec.specs.Code.{Code}
use Rattle.scc_core_spec.specs.Term.{Term, Left, place_at}
use Rattle.scc_core_spec.specs.Term as term
use Rattle.scc_core_view.specs.Programs.{path_of, vector_of}
use Rattle.scc_core_view.specs.Terms.{term_of, taken_of}
use Rattle.scc_core_view.specs.Terms as to
use Rattle.scc_core_view.specs.Whole.{IsName, location, made}
use Rattle.scc_pointers_walk.specs.declared.held.Resolver.{Resolver}
use Rattle.scc_pointers_walk.specs.Led.{at_place, left_of, looks_of, target_of}
use Rattle.scc_pointers_walk.specs.Located.{aimed_in, as_name, element_in, is_chosen, is_one_of, looked_in, member_in, pointed_in, size_of}
use Rattle.scc_pointers_walk.specs.Read.{IsFound}
use Rattle.scc_pointers_walk.specs.Walked as trees
use Rattle.scc_pointers_walk.specs.Walked.{Gone, Layer, aimed_or, all_behind, base_node, beyond, bits_of, expr_in, expr_node, expression, gone_in, leads_in, loaded_in, loaded_of, null_or_refused, read_of, shown_in, start, sure_of, target_in, walked_in, with_parts, with_pick}
use Rattle.scc_pointers_walk.proofs.Chained.{BaseLayer, base_layer, base_shown, layer_shown, node_shown}
use Rattle.scc_pointers_walk.proofs.Leading.{pointed_is}
use Rattle.scc_pointers_walk.proofs.Locations.{as_name_is, left_is, member_is, seen_base}
use Rattle.scc_pointers_walk.proofs.Patterns.{chosen_is, open_is, place_is}
use Rattle.scc_pointers_walk.proofs.Placed.{placed_is}
use Rattle.scc_pointers_walk.proofs.Sized.{element_is, size_of_is}
use Rattle.scc_pointers_walk.proofs.Tabled.{looked_is}
use Rattle.scc_pointers_walk.proofs.Terms.{PartLayer, base_term, part_term, term_base, term_node, term_part, term_pick}
use Rattle.scc_pointers_laws.specs.Followed.{AreFollowed, AreFollowedParts, HaveSmallSizes, IsFollowed, IsFollowedBase, IsFollowedLeft, IsFollowedPick, IsKnown, IsSound, binary, bit, cell, choose, convert, follow, index, join, last, left, literal, load, member, next, none, null, pick, prefix, range, read, some, unary, whole}
use Rattle.scc_pointers_laws.proofs.Sound.{element_sound, has_name, member_sound, name_sound, named_base_of, pointed_sound, same_made, same_some}

-- ---- sizes have 32 bits

small_at : (vs : List VectorSize2) (p : List Step) → HaveSmallSizes vs → fold.size_at (map vector_of vs) p < 4294967296
small_at [] p h = omega arith
small_at (v ∷ vs) p h = by (fits p (path_steps (path_of v.path))) (small_at vs p h.1)
  where
    by : (b : Bool) → fold.size_at (map vector_of vs) p < 4294967296 → (if b then v.size else fold.size_at (map vector_of vs) p) < 4294967296
    by true g = h.0
    by false g = g

small_known : (vs : List VectorSize2) (size : ℕ) (o : Option (List Step)) → HaveSmallSizes vs → size < 4294967296 → fold.known_size (map vector_of vs) size o < 4294967296
small_known vs size None h g = g
small_known vs size (Some p) h g = by (chooses_object p)
  where
    by : (b : Bool) → (if b then size else fold.size_at (map vector_of vs) p) < 4294967296
    by true = g
    by false = small_at vs p h

-- ---- terms and walks at a node

abbrev term_layer : Layer → tree.CoreExprNode-F to.Base to.Node (Left → Left) to.Picking Term to.Taken
term_layer = map-CoreExprNode CoreBase CoreExprNode CorePart CorePick CoreExpr CoreLeft to.Base to.Node (Left → Left) to.Picking Term to.Taken term_base term_node term_part term_pick term_of taken_of

term_made : (p : Place) (k : Kind) (x : Layer) → term_of (made p k x) ≡ to.expr_node (term_layer x) p k
term_made p k x =
    fold-roll-CoreExpr to.Base to.Node (Left → Left) to.Picking Term to.Taken to.base_node to.expr_node to.part_node to.pick_node to.expr_step to.left_step (record { place = p; kind = k; node = roll-CoreExprNode x })
    ∙ ap (λ n. n p k) (fold-roll-CoreExprNode to.Base to.Node (Left → Left) to.Picking Term to.Taken to.base_node to.expr_node to.part_node to.pick_node to.expr_step to.left_step x)

module _ (r : Resolver) (k : IsKnown r) where
  abbrev here : Leads
  here = looks_of r

  shown_made : (p : Place) (j : Kind) (x : Layer) → shown_in r (made p j x) ≡ expr_node r (layer_shown r x) p j
  shown_made p j x =
      fold-roll-CoreExpr trees.Base trees.Node trees.Part trees.Pick trees.Shown Gone (base_node r) (expr_node r) (trees.part_node r) trees.pick_node trees.expr_step trees.left_step (record { place = p; kind = j; node = roll-CoreExprNode x })
      ∙ ap (λ n. n p j) (fold-roll-CoreExprNode trees.Base trees.Node trees.Part trees.Pick trees.Shown Gone (base_node r) (expr_node r) (trees.part_node r) trees.pick_node trees.expr_step trees.left_step x)

  leads_at : (p : Place) (b : CoreBase) (ps : List CorePart) (q : Option CorePick) (soft : Bool) → walked_in r (location p b ps q) soft ≡ base_shown r b p soft (map (trees.part_in r) ps)
  leads_at p b ps q soft = ap (λ g. g.leads soft) (fold-roll-CoreLeft trees.Base trees.Node trees.Part trees.Pick trees.Shown Gone (base_node r) (expr_node r) (trees.part_node r) trees.pick_node trees.expr_step trees.left_step (record { place = p; base = b; parts = ps; pick = q }))

  base_made : (x : BaseLayer r) → base_shown r (roll-CoreBase x) ≡ base_node r (base_layer r x)
  base_made x = fold-roll-CoreBase trees.Base trees.Node trees.Part trees.Pick trees.Shown Gone (base_node r) (expr_node r) (trees.part_node r) trees.pick_node trees.expr_step trees.left_step x

  -- ---- agreement of answers

  data Agrees : Tried (Option CoreLeft) → Tried (Option Left) → Type 0 where
    stops : (q : Refusal) → Agrees (Stopped q) (Stopped q)
    at_null : Agrees (Made None) (Made None)
    leads : (m : CoreLeft) → IsSound r m → Agrees (Made (Some m)) (Made (Some (left_of m)))

  data Looks : Tried CoreLeft → Tried Left → Type 0 where
    refuses : (q : Refusal) → Looks (Stopped q) (Stopped q)
    sees : (m : CoreLeft) → Looks (Made m) (Made (left_of m))

  data Same : Tried CoreExpr → Tried Term → Type 0 where
    stopped : (q : Refusal) → Same (Stopped q) (Stopped q)
    makes : (x : CoreExpr) → Same (Made x) (Made (term_of x))

  agrees_from : (t : Tried (Option CoreLeft)) → ((m : CoreLeft) → t ≡ Made (Some m) → IsSound r m) → Agrees t (made_map target_of t)
  agrees_from (Stopped q) f = stops q
  agrees_from (Made None) f = at_null
  agrees_from (Made (Some m)) f = leads m (f m refl)

  looks_from : (t : Tried CoreLeft) → Looks t (made_map left_of t)
  looks_from (Stopped q) = refuses q
  looks_from (Made m) = sees m

  pointed_agrees : (m : CoreLeft) → IsSound r m → Agrees (pointed_in r m) (pointed here (left_of m))
  pointed_agrees m h = subst (Agrees (pointed_in r m)) (pointed_is r k.locals k.table k.cells m (has_name r k m h.0) h.1) (agrees_from (pointed_in r m) (λ n. pointed_sound r k m n))

  looked_looks : (m : CoreLeft) → IsSound r m → Looks (looked_in r m) (looked here (left_of m))
  looked_looks m h = subst (Looks (looked_in r m)) (looked_is r k.table m h.0 h.1) (looks_from (looked_in r m))

  -- ---- pointers that are followed

  null_agrees : (soft : Bool) (p : Place) (f : Left → Tried (Option Left)) → Agrees (null_or_refused soft p) (or_null soft p None f)
  null_agrees true p f = at_null
  null_agrees false p f = stops (refused reason.EmptyPointer p)

  abbrev turned : Place → Bool → Option CoreLeft → Tried (Option CoreLeft)
  turned p soft (Some t) = Made (Some (at_place p t))
  turned p soft None = null_or_refused soft p

  abbrev turned_left : Place → Bool → Option Left → Tried (Option Left)
  turned_left p soft t = or_null soft p t (λ m. Made (Some (placed p m)))

  turned_agrees : (p : Place) (soft : Bool) {t : Tried (Option CoreLeft)} {d : Tried (Option Left)} → Agrees t d → Agrees (and_made t (turned p soft)) (and_made d (turned_left p soft))
  turned_agrees p soft (stops q) = stops q
  turned_agrees p soft at_null = null_agrees soft p (λ m. Made (Some (placed p m)))
  turned_agrees p soft (leads m h) = subst (λ n. Agrees (Made (Some (at_place p m))) (Made (Some n))) (placed_is p m) (leads (at_place p m) h)

  follow_agrees : (p : Place) (soft : Bool) {t : Tried (Option CoreLeft)} {d : Tried (Option Left)} → Agrees t d
      → Agrees (and_made t (λ at. and_made (leads_in r at) (turned p soft))) (and_made d (λ o. and_made (behind o (pointed here)) (turned_left p soft)))
  follow_agrees p soft (stops q) = stops q
  follow_agrees p soft at_null = null_agrees soft p (λ m. Made (Some (placed p m)))
  follow_agrees p soft (leads m h) = turned_agrees p soft (pointed_agrees m h)

  -- ---- parts

  abbrev walked_on : List (CoreLeft → Tried CoreLeft) → Option CoreLeft → Tried (Option CoreLeft)
  walked_on fs None = Made None
  walked_on fs (Some m) = made_map Some (with_parts fs m)

  begun : (u : Tried (Option CoreLeft)) (p : Place) (soft : Bool) (fs : List (CoreLeft → Tried CoreLeft))
      → and_made u (λ at. and_made (leads_in r at) (beyond p soft fs)) ≡ and_made (and_made u (λ at. and_made (leads_in r at) (turned p soft))) (walked_on fs)
  begun (Stopped q) p soft fs = refl
  begun (Made at) p soft fs = by (leads_in r at)
    where
      null_is : (b : Bool) → null_or_refused b p ≡ and_made (null_or_refused b p) (walked_on fs)
      null_is true = refl
      null_is false = refl

      by : (v : Tried (Option CoreLeft)) → and_made v (beyond p soft fs) ≡ and_made (and_made v (turned p soft)) (walked_on fs)
      by (Stopped q) = refl
      by (Made (Some t)) = refl
      by (Made None) = null_is soft

  abbrev one_part : (CoreLeft → Tried CoreLeft) → Option CoreLeft → Tried (Option CoreLeft)
  one_part f None = Made None
  one_part f (Some m) = made_map Some (f m)

  split : (t : Tried (Option CoreLeft)) (f : CoreLeft → Tried CoreLeft) (fs : List (CoreLeft → Tried CoreLeft)) → and_made t (walked_on (f ∷ fs)) ≡ and_made (and_made t (one_part f)) (walked_on fs)
  split (Stopped q) f fs = refl
  split (Made None) f fs = refl
  split (Made (Some m)) f fs = by (f m)
    where
      by : (u : Tried CoreLeft) → made_map Some (and_made u (with_parts fs)) ≡ and_made (made_map Some u) (walked_on fs)
      by (Stopped q) = refl
      by (Made n) = refl

  ended : (t : Tried (Option CoreLeft)) → and_made t (walked_on []) ≡ t
  ended (Stopped q) = refl
  ended (Made None) = refl
  ended (Made (Some m)) = refl

  member_step : (n : Name) {t : Tried (Option CoreLeft)} {d : Tried (Option Left)} → Agrees t d
      → Agrees (and_made t (one_part (λ l. Made (member_in r l n)))) (and_made d (λ o. behind o (λ m. Made (Some (fold.member_of here.cells here.vectors (fold.as_name here.cells here.vectors m) n.0)))))
  member_step n (stops q) = stops q
  member_step n at_null = at_null
  member_step n (leads m h) = subst (λ x. Agrees (Made (Some (member_in r m n))) (Made (Some x))) (member_is r m n) (leads (member_in r m n) (member_sound r k m n h))

  small_size : (l : CoreLeft) → IsSound r l → (size : ℕ) → size < 4294967296 → size_of r l size < 4294967296
  small_size l h size g = subst (λ n. n < 4294967296) (sym (size_of_is r k.table k.paths l (has_name r k l h.0) h.1 size)) (by (nat_eq size fold.unknown))
    where
      by : (b : Bool) → (if b then fold.known_size here.vectors size (pattern here.cells (left_of l)) else size) < 4294967296
      by true = small_known r.vectors.now size (pattern here.cells (left_of l)) k.sizes g
      by false = g

  element_same : (m : CoreLeft) → IsSound r m → (size : ℕ) → size < 4294967296 → (x : CoreExpr) → IsFound r x
      → left_of (element_in r m size x) ≡ fold.element_of here.cells here.vectors (fold.as_name here.cells here.vectors (left_of m)) size (term_of x)
  element_same m h size g x f =
      let n = name_sound r k m h in
      element_is r k.table k.paths (as_name r m) (has_name r k (as_name r m) n.0) n.1 size x (small_size (as_name r m) n size g) f
      ∙ ap (λ l. fold.element_of here.cells here.vectors l size (term_of x)) (as_name_is r m)

  index_step : (size : ℕ) → size < 4294967296 → {u : Tried CoreExpr} {v : Tried Term} → Same u v → ((x : CoreExpr) → u ≡ Made x → IsFound r x) → {t : Tried (Option CoreLeft)} {d : Tried (Option Left)} → Agrees t d
      → Agrees (and_made t (one_part (λ l. made_map (element_in r l size) u)))
      (and_made d (λ o. behind o (λ m. made_map (λ x. Some (fold.element_of here.cells here.vectors (fold.as_name here.cells here.vectors m) size x)) v)))
  index_step size g s f (stops q) = stops q
  index_step size g s f at_null = at_null
  index_step size g (stopped q) f (leads m h) = stops q
  index_step size g (makes x) f (leads m h) = subst (λ y. Agrees (Made (Some (element_in r m size x))) (Made (Some y))) (element_same m h size g x (f x refl)) (leads (element_in r m size x) (element_sound r k m size x h (f x refl)))

  part_shown : (x : PartLayer) → trees.part_in r (roll-CorePart x) ≡ trees.part_node r (map-CorePart CoreBase CoreExprNode CorePart CorePick CoreExpr CoreLeft trees.Base trees.Node trees.Part trees.Pick trees.Shown Gone (base_shown r) (node_shown r) (trees.part_in r) (trees.pick_in r) (shown_in r) (gone_in r) x)
  part_shown x = fold-roll-CorePart trees.Base trees.Node trees.Part trees.Pick trees.Shown Gone (base_node r) (expr_node r) (trees.part_node r) trees.pick_node trees.expr_step trees.left_step x

  more_agrees : (f : CoreLeft → Tried CoreLeft) (g : Left → Left) (fs : List (CoreLeft → Tried CoreLeft)) (gs : List (Left → Left)) (soft : Bool) (l : Left) (t : Tried (Option CoreLeft))
      → (f2 : CoreLeft → Tried CoreLeft) → f2 ≡ f → (g2 : Left → Left) → g2 ≡ g
      → Agrees (and_made (and_made t (one_part f)) (walked_on fs)) (walked here soft (to.extended (g l) gs)) → Agrees (and_made t (walked_on (f2 ∷ fs))) (walked here soft (to.extended (g2 l) gs))
  more_agrees f g fs gs soft l t f2 e g2 i a =
      subst (λ z. Agrees (and_made t (walked_on (z ∷ fs))) (walked here soft (to.extended (g2 l) gs))) (sym e)
      (subst (λ z. Agrees (and_made t (walked_on (f ∷ fs))) (walked here soft (to.extended (z l) gs))) (sym i)
      (subst (λ u. Agrees u (walked here soft (to.extended (g l) gs))) (sym (split t f fs)) a))

  started : (p : Place) (x : BaseLayer r) → IsSound r (start p (roll-CoreBase x)) → (y : Left) → seen_base x p ≡ y → Agrees (Made (Some (start p (roll-CoreBase x)))) (Made (Some y))
  started p x h y e = subst (λ z. Agrees (Made (Some (start p (roll-CoreBase x)))) (Made (Some z))) (left_is (start p (roll-CoreBase x)) ∙ ap (λ f. f p) (base_term x) ∙ e) (leads (start p (roll-CoreBase x)) h)

  from_layer : (x : BaseLayer r) (p : Place) (soft : Bool) (fs : List (CoreLeft → Tried CoreLeft)) (gs : List (Left → Left))
      → Agrees (base_node r (base_layer r x) p soft fs) (walked here soft (to.extended (seen_base x p) gs)) → Agrees (base_shown r (roll-CoreBase x) p soft fs) (walked here soft (to.extended (term_base (roll-CoreBase x) p) gs))
  from_layer x p soft fs gs a =
      subst (λ f. Agrees (f p soft fs) (walked here soft (to.extended (term_base (roll-CoreBase x) p) gs))) (sym (base_made x))
      (subst (λ f. Agrees (base_node r (base_layer r x) p soft fs) (walked here soft (to.extended (f p) gs))) (sym (base_term x)) a)

  -- ---- what is loaded or read

  sure_same : (p : Place) {t : Tried (Option CoreLeft)} {d : Tried (Option Left)} → Agrees t d → (g : CoreLeft → Tried CoreExpr) (h : Left → Tried Term) → ((m : CoreLeft) → IsSound r m → Same (g m) (h (left_of m)))
      → Same (and_made t (λ o. and_made (sure_of p o) g)) (and_made d (λ o. sure p o h))
  sure_same p (stops q) g h f = stopped q
  sure_same p at_null g h f = stopped (refused reason.EmptyPointer p)
  sure_same p (leads m s) g h f = f m s

  there_same : (p : Place) (l : Left) → place_at l ≡ p → {t : Tried (Option CoreLeft)} → Agrees t (walked here false l) → (g : CoreLeft → Tried CoreExpr) (h : Left → Tried Term) → ((m : CoreLeft) → IsSound r m → Same (g m) (h (left_of m)))
      → Same (and_made t (λ o. and_made (sure_of p o) g)) (and_made (walked here false l) (λ o. sure (place_at l) o h))
  there_same p l e {t = t} a g h f = subst (λ z. Same (and_made t (λ o. and_made (sure_of p o) g)) (and_made (walked here false l) (λ o. sure z o h))) (sym e) (sure_same p a g h f)

  push : {B C : Type 0} (f : B → C) (p : Place) (t : Tried (Option CoreLeft)) (g : CoreLeft → Tried B) → made_map f (and_made t (λ o. and_made (sure_of p o) g)) ≡ and_made t (λ o. and_made (sure_of p o) (λ m. made_map f (g m)))
  push f p (Stopped q) g = refl
  push f p (Made None) g = refl
  push f p (Made (Some m)) g = refl

  push_left : (f : Term → Term) (p : Place) (d : Tried (Option Left)) (h : Left → Tried Term) → made_map f (and_made d (λ o. sure p o h)) ≡ and_made d (λ o. sure p o (λ m. made_map f (h m)))
  push_left f p (Stopped q) h = refl
  push_left f p (Made None) h = refl
  push_left f p (Made (Some m)) h = refl

  then_left : (f : Term → Tried Term) (p : Place) (d : Tried (Option Left)) (h : Left → Tried Term) → and_made (and_made d (λ o. sure p o h)) f ≡ and_made d (λ o. sure p o (λ m. and_made (h m) f))
  then_left f p (Stopped q) h = refl
  then_left f p (Made None) h = refl
  then_left f p (Made (Some m)) h = refl

  made_same : (p : Place) (j : Kind) (x : Layer) (u : Term) → to.expr_node (term_layer x) p j ≡ u → Same (Made (made p j x)) (Made u)
  made_same p j x u e = subst (λ t. Same (Made (made p j x)) (Made t)) (term_made p j x ∙ e) (makes (made p j x))

  from_node : (p : Place) (j : Kind) (x : Layer) → Same (expr_node r (layer_shown r x) p j).made (resolved here (to.expr_node (term_layer x) p j)) → Same (expr_in r (made p j x)) (resolved here (term_of (made p j x)))
  from_node p j x s =
      subst (λ t. Same t.made (resolved here (term_of (made p j x)))) (sym (shown_made p j x))
      (subst (λ t. Same (expr_node r (layer_shown r x) p j).made (resolved here t)) (sym (term_made p j x)) s)

  abbrev whole_left : Place → CoreBase → List CorePart → Left
  whole_left p b ps = to.extended (term_base b p) (map term_part ps)

  abbrev gone_by : Place → CoreBase → List CorePart → Tried (Option CorePick) → Bool → Gone
  gone_by p b ps t w = record { place = p; leads = λ soft. base_shown r b p soft (map (trees.part_in r) ps); pick = t; is_whole = w }

  gone_whole : (p : Place) (b : CoreBase) (ps : List CorePart) → gone_in r (location p b ps None) ≡ gone_by p b ps (Made None) true
  gone_whole p b ps = fold-roll-CoreLeft trees.Base trees.Node trees.Part trees.Pick trees.Shown Gone (base_node r) (expr_node r) (trees.part_node r) trees.pick_node trees.expr_step trees.left_step (record { place = p; base = b; parts = ps; pick = None })

  gone_some : (p : Place) (b : CoreBase) (ps : List CorePart) (q : CorePick) → gone_in r (location p b ps (Some q)) ≡ gone_by p b ps (made_map Some (trees.pick_in r q)) false
  gone_some p b ps q = fold-roll-CoreLeft trees.Base trees.Node trees.Part trees.Pick trees.Shown Gone (base_node r) (expr_node r) (trees.part_node r) trees.pick_node trees.expr_step trees.left_step (record { place = p; base = b; parts = ps; pick = Some q })

  bit_shown : (of : Kind) (e : CoreExpr) → trees.pick_in r (roll-CorePick (tree.Bit of e)) ≡ made_map (λ x. roll-CorePick (tree.Bit of x)) (expr_in r e)
  bit_shown of e = fold-roll-CorePick trees.Base trees.Node trees.Part trees.Pick trees.Shown Gone (base_node r) (expr_node r) (trees.part_node r) trees.pick_node trees.expr_step trees.left_step (tree.Bit of e)

  range_shown : (of : Kind) (h l : ℕ) → trees.pick_in r (roll-CorePick (tree.Range of h l)) ≡ Made (roll-CorePick (tree.Range of h l))
  range_shown of h l = fold-roll-CorePick trees.Base trees.Node trees.Part trees.Pick trees.Shown Gone (base_node r) (expr_node r) (trees.part_node r) trees.pick_node trees.expr_step trees.left_step (tree.Range of h l)

  abbrev taken_by : Left → term.Pick → Option Kind → to.Taken
  taken_by l q o = record { left = l; pick = q; of = o }

  taken_whole : (p : Place) (b : CoreBase) (ps : List CorePart) → taken_of (location p b ps None) ≡ taken_by (whole_left p b ps) term.Whole None
  taken_whole p b ps = fold-roll-CoreLeft to.Base to.Node (Left → Left) to.Picking Term to.Taken to.base_node to.expr_node to.part_node to.pick_node to.expr_step to.left_step (record { place = p; base = b; parts = ps; pick = None })

  taken_some : (p : Place) (b : CoreBase) (ps : List CorePart) (q : CorePick) → taken_of (location p b ps (Some q)) ≡ taken_by (whole_left p b ps) (term_pick q).pick (Some (term_pick q).of)
  taken_some p b ps q = fold-roll-CoreLeft to.Base to.Node (Left → Left) to.Picking Term to.Taken to.base_node to.expr_node to.part_node to.pick_node to.expr_step to.left_step (record { place = p; base = b; parts = ps; pick = Some q })

  bit_term : (of : Kind) (e : CoreExpr) → term_pick (roll-CorePick (tree.Bit of e)) ≡ record { of = of; pick = term.OneBit (term_of e) }
  bit_term of e = fold-roll-CorePick to.Base to.Node (Left → Left) to.Picking Term to.Taken to.base_node to.expr_node to.part_node to.pick_node to.expr_step to.left_step (tree.Bit of e)

  range_term : (of : Kind) (h l : ℕ) → term_pick (roll-CorePick (tree.Range of h l)) ≡ record { of = of; pick = term.Bits h l }
  range_term of h l = fold-roll-CorePick to.Base to.Node (Left → Left) to.Picking Term to.Taken to.base_node to.expr_node to.part_node to.pick_node to.expr_step to.left_step (tree.Range of h l)

  place_whole : (p : Place) (b : CoreBase) (ps : List CorePart) → place_at (whole_left p b ps) ≡ p
  place_whole p b ps = ap place_at (sym (left_is (location p b ps None))) ∙ place_is (location p b ps None)

  -- what a location with a pick is taken for
  taken_bit : (n : CoreLeft) (of : Kind) (x : CoreExpr) → taken_of (with_pick n (Some (roll-CorePick (tree.Bit of x)))) ≡ taken_by (left_of n) (term.OneBit (term_of x)) (Some of)
  taken_bit n of x =
      taken_some n.place n.base n.parts (roll-CorePick (tree.Bit of x))
      ∙ ap (λ t. taken_by (whole_left n.place n.base n.parts) t.pick (Some t.of)) (bit_term of x)
      ∙ ap (λ l. taken_by l (term.OneBit (term_of x)) (Some of)) (sym (left_is n))

  taken_range : (n : CoreLeft) (of : Kind) (h l : ℕ) → taken_of (with_pick n (Some (roll-CorePick (tree.Range of h l)))) ≡ taken_by (left_of n) (term.Bits h l) (Some of)
  taken_range n of h l =
      taken_some n.place n.base n.parts (roll-CorePick (tree.Range of h l))
      ∙ ap (λ t. taken_by (whole_left n.place n.base n.parts) t.pick (Some t.of)) (range_term of h l)
      ∙ ap (λ m. taken_by m (term.Bits h l) (Some of)) (sym (left_is n))

  taken_none : (n : CoreLeft) → taken_of (with_pick n None) ≡ taken_by (left_of n) term.Whole None
  taken_none n = taken_whole n.place n.base n.parts ∙ ap (λ l. taken_by l term.Whole None) (sym (left_is n))

  abbrev load_in : Place → Kind → to.Taken → Term
  load_in p j t = to.picked p j (term.Load p (unwrap_or t.of j) t.left) t.pick

  abbrev read_in : Place → Kind → to.Taken → Term
  read_in p j t = to.picked p j (term.Read p (unwrap_or t.of j) t.left) t.pick

  -- the layer of a load or a read, by what is taken
  load_same : (p : Place) (j : Kind) (n : CoreLeft) (t : to.Taken) → taken_of n ≡ t → Same (Made (expression p j (tree.Load n))) (Made (load_in p j t))
  load_same p j n t e = made_same p j (tree.Load n) (load_in p j t) (ap (load_in p j) e)

  read_same : (p : Place) (j : Kind) (n : CoreLeft) (t : to.Taken) → taken_of n ≡ t → Same (Made (expression p j (tree.Read n))) (Made (read_in p j t))
  read_same p j n t e = made_same p j (tree.Read n) (read_in p j t) (ap (read_in p j) e)

  -- the three forms of what is loaded of a place
  module _ (p : Place) (j : Kind) (o : Place) (b : CoreBase) (ps : List CorePart) (a : Agrees (base_shown r b o false (map (trees.part_in r) ps)) (walked here false (whole_left o b ps))) where
    load_whole : Same (made_map (λ l. expression p j (tree.Load l)) (loaded_of r (gone_by o b ps (Made None) true))) (resolved here (term.Load p j (whole_left o b ps)))
    load_whole =
        subst (λ u. Same u (resolved here (term.Load p j (whole_left o b ps)))) (sym (push (λ l. expression p j (tree.Load l)) o (base_shown r b o false (map (trees.part_in r) ps)) (λ m. made_map (λ l. with_pick l None) (looked_in r m))))
        (there_same o (whole_left o b ps) (place_whole o b ps) a (λ m. made_map (λ l. expression p j (tree.Load l)) (made_map (λ l. with_pick l None) (looked_in r m))) (λ m. made_map (term.Load p j) (looked here m)) (λ m s. by (looked_looks m s)))
      where
        by : {t : Tried CoreLeft} {d : Tried Left} → Looks t d → Same (made_map (λ l. expression p j (tree.Load l)) (made_map (λ l. with_pick l None) t)) (made_map (term.Load p j) d)
        by (refuses q) = stopped q
        by (sees n) = load_same p j (with_pick n None) (taken_by (left_of n) term.Whole None) (taken_none n)

    load_bit : (of : Kind) {u : Tried CoreExpr} (i : Term) → Same u (resolved here i)
        → Same (made_map (λ l. expression p j (tree.Load l)) (loaded_of r (gone_by o b ps (made_map Some (made_map (λ x. roll-CorePick (tree.Bit of x)) u)) false))) (resolved here (term.Bit p (term.Load p of (whole_left o b ps)) i))
    load_bit of {u = u} i w =
        subst (λ v. Same v (resolved here (term.Bit p (term.Load p of (whole_left o b ps)) i))) (sym (push (λ l. expression p j (tree.Load l)) o (base_shown r b o false (map (trees.part_in r) ps)) (λ m. and_made (made_map Some (made_map (λ x. roll-CorePick (tree.Bit of x)) u)) (λ q. made_map (λ l. with_pick l q) (looked_in r m)))))
        (there_same o (whole_left o b ps) (place_whole o b ps) a (λ m. made_map (λ l. expression p j (tree.Load l)) (and_made (made_map Some (made_map (λ x. roll-CorePick (tree.Bit of x)) u)) (λ q. made_map (λ l. with_pick l q) (looked_in r m))))
        (λ m. and_made (resolved here i) (λ y. made_map (λ n. term.Bit p (term.Load p of n) y) (looked here m))) (λ m s. by w (looked_looks m s)))
      where
        by : {u : Tried CoreExpr} {v : Tried Term} → Same u v → {t : Tried CoreLeft} {d : Tried Left} → Looks t d
            → Same (made_map (λ l. expression p j (tree.Load l)) (and_made (made_map Some (made_map (λ x. roll-CorePick (tree.Bit of x)) u)) (λ q. made_map (λ l. with_pick l q) t))) (and_made v (λ y. made_map (λ n. term.Bit p (term.Load p of n) y) d))
        by (stopped q) g = stopped q
        by (makes x) (refuses q) = stopped q
        by (makes x) (sees n) = load_same p j (with_pick n (Some (roll-CorePick (tree.Bit of x)))) (taken_by (left_of n) (term.OneBit (term_of x)) (Some of)) (taken_bit n of x)

    load_range : (of : Kind) (h l : ℕ) → Same (made_map (λ l. expression p j (tree.Load l)) (loaded_of r (gone_by o b ps (made_map Some (Made (roll-CorePick (tree.Range of h l)))) false))) (resolved here (term.Range p j (term.Load p of (whole_left o b ps)) h l))
    load_range of h l =
        subst (λ v. Same v (resolved here (term.Range p j (term.Load p of (whole_left o b ps)) h l))) (sym (push (λ l. expression p j (tree.Load l)) o (base_shown r b o false (map (trees.part_in r) ps)) (λ m. made_map (λ n. with_pick n (Some (roll-CorePick (tree.Range of h l)))) (looked_in r m))))
        (subst (Same _) (sym (push_left (λ x. term.Range p j x h l) (place_at (whole_left o b ps)) (walked here false (whole_left o b ps)) (λ m. made_map (term.Load p of) (looked here m))))
        (there_same o (whole_left o b ps) (place_whole o b ps) a (λ m. made_map (λ l. expression p j (tree.Load l)) (made_map (λ n. with_pick n (Some (roll-CorePick (tree.Range of h l)))) (looked_in r m)))
        (λ m. made_map (λ x. term.Range p j x h l) (made_map (term.Load p of) (looked here m))) (λ m s. by (looked_looks m s))))
      where
        by : {t : Tried CoreLeft} {d : Tried Left} → Looks t d → Same (made_map (λ l. expression p j (tree.Load l)) (made_map (λ n. with_pick n (Some (roll-CorePick (tree.Range of h l)))) t)) (made_map (λ x. term.Range p j x h l) (made_map (term.Load p of) d))
        by (refuses q) = stopped q
        by (sees n) = load_same p j (with_pick n (Some (roll-CorePick (tree.Range of h l)))) (taken_by (left_of n) (term.Bits h l) (Some of)) (taken_range n of h l)

    read_whole : Same (made_map (λ l. expression p j (tree.Read l)) (read_of r (gone_by o b ps (Made None) true))) (resolved here (term.Read p j (whole_left o b ps)))
    read_whole =
        subst (λ u. Same u (resolved here (term.Read p j (whole_left o b ps)))) (sym (push (λ l. expression p j (tree.Read l)) o (base_shown r b o false (map (trees.part_in r) ps)) (λ m. and_made (looked_in r m) (λ l. Made (with_pick l None)))))
        (there_same o (whole_left o b ps) (place_whole o b ps) a (λ m. made_map (λ l. expression p j (tree.Read l)) (and_made (looked_in r m) (λ l. Made (with_pick l None)))) (λ m. made_map (term.Read p j) (looked here m)) (λ m s. by (looked_looks m s)))
      where
        by : {t : Tried CoreLeft} {d : Tried Left} → Looks t d → Same (made_map (λ l. expression p j (tree.Read l)) (and_made t (λ l. Made (with_pick l None)))) (made_map (term.Read p j) d)
        by (refuses q) = stopped q
        by (sees n) = read_same p j (with_pick n None) (taken_by (left_of n) term.Whole None) (taken_none n)

    read_bit : (of : Kind) {u : Tried CoreExpr} (i : Term) → Same u (resolved here i)
        → Same (made_map (λ l. expression p j (tree.Read l)) (read_of r (gone_by o b ps (made_map Some (made_map (λ x. roll-CorePick (tree.Bit of x)) u)) false))) (resolved here (term.Bit p (term.Read p of (whole_left o b ps)) i))
    read_bit of {u = u} i w =
        subst (λ v. Same v (resolved here (term.Bit p (term.Read p of (whole_left o b ps)) i))) (sym (push (λ l. expression p j (tree.Read l)) o (base_shown r b o false (map (trees.part_in r) ps)) (λ m. and_made (looked_in r m) (λ l. made_map (λ q. with_pick l q) (made_map Some (made_map (λ x. roll-CorePick (tree.Bit of x)) u))))))
        (subst (Same _) (sym (then_left (λ x. made_map (term.Bit p x) (resolved here i)) (place_at (whole_left o b ps)) (walked here false (whole_left o b ps)) (λ m. made_map (term.Read p of) (looked here m))))
        (there_same o (whole_left o b ps) (place_whole o b ps) a (λ m. made_map (λ l. expression p j (tree.Read l)) (and_made (looked_in r m) (λ l. made_map (λ q. with_pick l q) (made_map Some (made_map (λ x. roll-CorePick (tree.Bit of x)) u)))))
        (λ m. and_made (made_map (term.Read p of) (looked here m)) (λ x. made_map (term.Bit p x) (resolved here i))) (λ m s. by w (looked_looks m s))))
      where
        by : {u : Tried CoreExpr} {v : Tried Term} → Same u v → {t : Tried CoreLeft} {d : Tried Left} → Looks t d
            → Same (made_map (λ l. expression p j (tree.Read l)) (and_made t (λ l. made_map (λ q. with_pick l q) (made_map Some (made_map (λ x. roll-CorePick (tree.Bit of x)) u))))) (and_made (made_map (term.Read p of) d) (λ x. made_map (term.Bit p x) v))
        by g (refuses q) = stopped q
        by (stopped q) (sees n) = stopped q
        by (makes x) (sees n) = read_same p j (with_pick n (Some (roll-CorePick (tree.Bit of x)))) (taken_by (left_of n) (term.OneBit (term_of x)) (Some of)) (taken_bit n of x)

    read_range : (of : Kind) (h l : ℕ) → Same (made_map (λ l. expression p j (tree.Read l)) (read_of r (gone_by o b ps (made_map Some (Made (roll-CorePick (tree.Range of h l)))) false))) (resolved here (term.Range p j (term.Read p of (whole_left o b ps)) h l))
    read_range of h l =
        subst (λ v. Same v (resolved here (term.Range p j (term.Read p of (whole_left o b ps)) h l))) (sym (push (λ l. expression p j (tree.Read l)) o (base_shown r b o false (map (trees.part_in r) ps)) (λ m. and_made (looked_in r m) (λ n. Made (with_pick n (Some (roll-CorePick (tree.Range of h l))))))))
        (subst (Same _) (sym (push_left (λ x. term.Range p j x h l) (place_at (whole_left o b ps)) (walked here false (whole_left o b ps)) (λ m. made_map (term.Read p of) (looked here m))))
        (there_same o (whole_left o b ps) (place_whole o b ps) a (λ m. made_map (λ l. expression p j (tree.Read l)) (and_made (looked_in r m) (λ n. Made (with_pick n (Some (roll-CorePick (tree.Range of h l)))))))
        (λ m. made_map (λ x. term.Range p j x h l) (made_map (term.Read p of) (looked here m))) (λ m s. by (looked_looks m s))))
      where
        by : {t : Tried CoreLeft} {d : Tried Left} → Looks t d → Same (made_map (λ l. expression p j (tree.Read l)) (and_made t (λ n. Made (with_pick n (Some (roll-CorePick (tree.Range of h l))))))) (made_map (λ x. term.Range p j x h l) (made_map (term.Read p of) d))
        by (refuses q) = stopped q
        by (sees n) = read_same p j (with_pick n (Some (roll-CorePick (tree.Range of h l)))) (taken_by (left_of n) (term.Bits h l) (Some of)) (taken_range n of h l)

  -- ---- operators

  convert_same : (p : Place) (j : Kind) {u : Tried CoreExpr} {v : Tried Term} → Same u v → Same (made_map (λ x. expression p j (tree.Convert x)) u) (made_map (term.Convert p j) v)
  convert_same p j (stopped q) = stopped q
  convert_same p j (makes x) = made_same p j (tree.Convert x) (term.Convert p j (term_of x)) refl

  unary_same : (p : Place) (j : Kind) (o : Op) {u : Tried CoreExpr} {v : Tried Term} → Same u v
      → Same (and_made u (λ x. made_map (λ y. expression p j (tree.Operate o x y)) (Made None))) (made_map (term.Unary p j o) v)
  unary_same p j o (stopped q) = stopped q
  unary_same p j o (makes x) = made_same p j (tree.Operate o x None) (term.Unary p j o (term_of x)) refl

  binary_same : (p : Place) (j : Kind) (o : Op) {u w : Tried CoreExpr} {v z : Tried Term} → Same u v → Same w z
      → Same (and_made u (λ x. made_map (λ y. expression p j (tree.Operate o x y)) (made_map Some w))) (and_made v (λ x. made_map (term.Binary p j o x) z))
  binary_same p j o (stopped q) g = stopped q
  binary_same p j o (makes x) (stopped q) = stopped q
  binary_same p j o (makes x) (makes y) = made_same p j (tree.Operate o x (Some y)) (term.Binary p j o (term_of x) (term_of y)) refl

  choose_same : (p : Place) (j : Kind) {u w t : Tried CoreExpr} {v z d : Tried Term} → Same u v → Same w z → Same t d
      → Same (and_made u (λ x. and_made w (λ y. made_map (λ n. expression p j (tree.Choose x y n)) t))) (and_made v (λ x. and_made z (λ y. made_map (term.Choose p j x y) d)))
  choose_same p j (stopped q) f g = stopped q
  choose_same p j (makes x) (stopped q) g = stopped q
  choose_same p j (makes x) (makes y) (stopped q) = stopped q
  choose_same p j (makes x) (makes y) (makes n) = made_same p j (tree.Choose x y n) (term.Choose p j (term_of x) (term_of y) (term_of n)) refl

  -- ---- bits of an expression

  picked_bit : (p : Place) (j : Kind) (x : CoreExpr) (of : Kind) (y : CoreExpr) → Same (Made (expression p j (tree.Pick x (roll-CorePick (tree.Bit of y))))) (Made (term.Bit p (term_of x) (term_of y)))
  picked_bit p j x of y = made_same p j (tree.Pick x (roll-CorePick (tree.Bit of y))) (term.Bit p (term_of x) (term_of y)) (ap (λ t. to.picked p j (term_of x) t.pick) (bit_term of y))

  picked_range : (p : Place) (j : Kind) (x : CoreExpr) (of : Kind) (h l : ℕ) → Same (Made (expression p j (tree.Pick x (roll-CorePick (tree.Range of h l))))) (Made (term.Range p j (term_of x) h l))
  picked_range p j x of h l = made_same p j (tree.Pick x (roll-CorePick (tree.Range of h l))) (term.Range p j (term_of x) h l) (ap (λ t. to.picked p j (term_of x) t.pick) (range_term of h l))

  other_bit : (p : Place) (j of : Kind) {u w : Tried CoreExpr} {v z : Tried Term} → Same u v → Same w z
      → Same (and_made u (λ x. made_map (λ q. expression p j (tree.Pick x q)) (made_map (λ y. roll-CorePick (tree.Bit of y)) w))) (and_made v (λ x. made_map (term.Bit p x) z))
  other_bit p j of (stopped q) g = stopped q
  other_bit p j of (makes x) (stopped q) = stopped q
  other_bit p j of (makes x) (makes y) = picked_bit p j x of y

  other_range : (p : Place) (j of : Kind) (h l : ℕ) {u : Tried CoreExpr} {v : Tried Term} → Same u v
      → Same (and_made u (λ x. made_map (λ q. expression p j (tree.Pick x q)) (Made (roll-CorePick (tree.Range of h l))))) (made_map (λ x. term.Range p j x h l) v)
  other_range p j of h l (stopped q) = stopped q
  other_range p j of h l (makes x) = picked_range p j x of h l

  -- a bit of what is no variable
  abbrev IsOther : Term → Type 0
  IsOther t = (p : Place) (i : Term) → resolved here (term.Bit p t i) ≡ and_made (resolved here t) (λ x. made_map (term.Bit p x) (resolved here i))

  data Form (e : CoreExpr) : Type 0 where
    other : (shown_in r e).load ≡ None → IsOther (term_of e) → Form e
    bare : (p : Place) (j : Kind) (o : Place) (b : CoreBase) (ps : List CorePart) → e ≡ made p j (tree.Load (location o b ps None))
        → Agrees (base_shown r b o false (map (trees.part_in r) ps)) (walked here false (whole_left o b ps)) → Form e

  other_form : (p : Place) (j : Kind) (x : Layer) → (expr_node r (layer_shown r x) p j).load ≡ None → IsOther (to.expr_node (term_layer x) p j) → Form (made p j x)
  other_form p j x h g = other (ap (λ t. t.load) (shown_made p j x) ∙ h) (subst IsOther (sym (term_made p j x)) g)

  bare_term : (p : Place) (j : Kind) (o : Place) (b : CoreBase) (ps : List CorePart) → term_of (made p j (tree.Load (location o b ps None))) ≡ term.Load p j (whole_left o b ps)
  bare_term p j o b ps = term_made p j (tree.Load (location o b ps None)) ∙ ap (load_in p j) (taken_whole o b ps)

  bare_load : (p : Place) (j : Kind) (o : Place) (b : CoreBase) (ps : List CorePart) → (shown_in r (made p j (tree.Load (location o b ps None)))).load ≡ Some (record { place = p; kind = j; from = gone_by o b ps (Made None) true })
  bare_load p j o b ps = ap (λ t. t.load) (shown_made p j (tree.Load (location o b ps None))) ∙ ap (λ g. if g.is_whole then Some (record { place = p; kind = j; from = g }) else None) (gone_whole o b ps)

  module _ (p : Place) (j : Kind) (p2 : Place) (j2 : Kind) (o : Place) (b : CoreBase) (ps : List CorePart) (a : Agrees (base_shown r b o false (map (trees.part_in r) ps)) (walked here false (whole_left o b ps))) where
    abbrev of_load : Tried CoreExpr → Tried CorePick → Tried CoreExpr
    of_load u q = bits_of r p j u q (Some (record { place = p2; kind = j2; from = gone_by o b ps (Made None) true }))

    bare_same : (n : CoreLeft) → Same (Made (expression p2 j2 (tree.Load (with_pick n None)))) (Made (term.Load p2 j2 (left_of n)))
    bare_same n = load_same p2 j2 (with_pick n None) (taken_by (left_of n) term.Whole None) (taken_none n)

    bare_is : (n : CoreLeft) → term_of (expression p2 j2 (tree.Load (with_pick n None))) ≡ term.Load p2 j2 (left_of n)
    bare_is n = term_made p2 j2 (tree.Load (with_pick n None)) ∙ ap (load_in p2 j2) (taken_none n)

    bare_bit : (of : Kind) (u : Tried CoreExpr) {w : Tried CoreExpr} (i : Term) → Same w (resolved here i) → Same (of_load u (made_map (λ y. roll-CorePick (tree.Bit of y)) w)) (resolved here (term.Bit p (term.Load p2 j2 (whole_left o b ps)) i))
    bare_bit of u {w = w} i s =
        there_same o (whole_left o b ps) (place_whole o b ps) a
        (λ m. and_made (made_map (λ y. roll-CorePick (tree.Bit of y)) w) (λ q. made_map (λ n. expression p j (tree.Pick (expression p2 j2 (tree.Load (with_pick n None))) q)) (looked_in r m)))
        (λ m. and_made (resolved here i) (λ y. made_map (λ n. term.Bit p (term.Load p2 j2 n) y) (looked here m))) (λ m g. by s (looked_looks m g))
      where
        by : {w : Tried CoreExpr} {v : Tried Term} → Same w v → {t : Tried CoreLeft} {d : Tried Left} → Looks t d
            → Same (and_made (made_map (λ y. roll-CorePick (tree.Bit of y)) w) (λ q. made_map (λ n. expression p j (tree.Pick (expression p2 j2 (tree.Load (with_pick n None))) q)) t)) (and_made v (λ y. made_map (λ n. term.Bit p (term.Load p2 j2 n) y) d))
        by (stopped q) g = stopped q
        by (makes y) (refuses q) = stopped q
        by (makes y) (sees n) = subst (λ z. Same (Made (expression p j (tree.Pick (expression p2 j2 (tree.Load (with_pick n None))) (roll-CorePick (tree.Bit of y))))) (Made (term.Bit p z (term_of y)))) (bare_is n) (picked_bit p j (expression p2 j2 (tree.Load (with_pick n None))) of y)

    bare_range : (of : Kind) (h l : ℕ) (u : Tried CoreExpr) → Same (of_load u (Made (roll-CorePick (tree.Range of h l)))) (resolved here (term.Range p j (term.Load p2 j2 (whole_left o b ps)) h l))
    bare_range of h l u =
        subst (Same _) (sym (push_left (λ x. term.Range p j x h l) (place_at (whole_left o b ps)) (walked here false (whole_left o b ps)) (λ m. made_map (term.Load p2 j2) (looked here m))))
        (there_same o (whole_left o b ps) (place_whole o b ps) a
        (λ m. made_map (λ n. expression p j (tree.Pick (expression p2 j2 (tree.Load (with_pick n None))) (roll-CorePick (tree.Range of h l)))) (looked_in r m))
        (λ m. made_map (λ x. term.Range p j x h l) (made_map (term.Load p2 j2) (looked here m))) (λ m g. by (looked_looks m g)))
      where
        by : {t : Tried CoreLeft} {d : Tried Left} → Looks t d
            → Same (made_map (λ n. expression p j (tree.Pick (expression p2 j2 (tree.Load (with_pick n None))) (roll-CorePick (tree.Range of h l)))) t) (made_map (λ x. term.Range p j x h l) (made_map (term.Load p2 j2) d))
        by (refuses q) = stopped q
        by (sees n) = subst (λ z. Same (Made (expression p j (tree.Pick (expression p2 j2 (tree.Load (with_pick n None))) (roll-CorePick (tree.Range of h l))))) (Made (term.Range p j z h l))) (bare_is n) (picked_range p j (expression p2 j2 (tree.Load (with_pick n None))) of h l)

  bit_same : (p : Place) (j : Kind) (e : CoreExpr) → Form e → Same (expr_in r e) (resolved here (term_of e)) → (of : Kind) (i : CoreExpr) → Same (expr_in r i) (resolved here (term_of i))
      → Same (bits_of r p j (expr_in r e) (made_map (λ y. roll-CorePick (tree.Bit of y)) (expr_in r i)) (shown_in r e).load) (resolved here (term.Bit p (term_of e) (term_of i)))
  bit_same p j e (other n g) s of i w =
      subst (λ o. Same (bits_of r p j (expr_in r e) (made_map (λ y. roll-CorePick (tree.Bit of y)) (expr_in r i)) o) (resolved here (term.Bit p (term_of e) (term_of i)))) (sym n)
      (subst (Same _) (sym (g p (term_of i))) (other_bit p j of s w))
  bit_same p j e (bare p2 j2 o b ps q a) s of i w =
      subst (λ z. Same (bits_of r p j (expr_in r e) (made_map (λ y. roll-CorePick (tree.Bit of y)) (expr_in r i)) z) (resolved here (term.Bit p (term_of e) (term_of i)))) (sym (ap (λ z. (shown_in r z).load) q ∙ bare_load p2 j2 o b ps))
      (subst (λ z. Same (of_load p j p2 j2 o b ps a (expr_in r e) (made_map (λ y. roll-CorePick (tree.Bit of y)) (expr_in r i))) (resolved here (term.Bit p z (term_of i)))) (sym (ap term_of q ∙ bare_term p2 j2 o b ps)) (bare_bit p j p2 j2 o b ps a of (expr_in r e) (term_of i) w))

  range_same : (p : Place) (j : Kind) (e : CoreExpr) → Form e → Same (expr_in r e) (resolved here (term_of e)) → (of : Kind) (h l : ℕ)
      → Same (bits_of r p j (expr_in r e) (Made (roll-CorePick (tree.Range of h l))) (shown_in r e).load) (resolved here (term.Range p j (term_of e) h l))
  range_same p j e (other n g) s of h l = subst (λ o. Same (bits_of r p j (expr_in r e) (Made (roll-CorePick (tree.Range of h l))) o) (resolved here (term.Range p j (term_of e) h l))) (sym n) (other_range p j of h l s)
  range_same p j e (bare p2 j2 o b ps q a) s of h l =
      subst (λ z. Same (bits_of r p j (expr_in r e) (Made (roll-CorePick (tree.Range of h l))) z) (resolved here (term.Range p j (term_of e) h l))) (sym (ap (λ z. (shown_in r z).load) q ∙ bare_load p2 j2 o b ps))
      (subst (λ z. Same (of_load p j p2 j2 o b ps a (expr_in r e) (Made (roll-CorePick (tree.Range of h l)))) (resolved here (term.Range p j z h l))) (sym (ap term_of q ∙ bare_term p2 j2 o b ps)) (bare_range p j p2 j2 o b ps a of h l (expr_in r e)))

  -- ---- concatenations

  data AllSame : List CoreExpr → Type 0 where
    all_end : AllSame []
    all_more : {e : CoreExpr} {es : List CoreExpr} → Same (expr_in r e) (resolved here (term_of e)) → AllSame es → AllSame (e ∷ es)

  joined_stops : (p : Place) (j : Kind) (q : Refusal) (t : Term) (ts : List Term) → resolved here t ≡ Stopped q → resolved here (to.joined_behind p j t ts) ≡ Stopped q
  joined_stops p j q t [] e = e
  joined_stops p j q t (u ∷ ts) e = joined_stops p j q (term.Join p j t u) ts (ap (λ z. and_made z (λ x. made_map (term.Join p j x) (resolved here u))) e)

  joined_more : (p : Place) (j : Kind) (t : Term) (xs : List CoreExpr) (x : CoreExpr) → to.joined_behind p j t (map term_of (xs ++ x ∷ [])) ≡ term.Join p j (to.joined_behind p j t (map term_of xs)) (term_of x)
  joined_more p j t [] x = refl
  joined_more p j t (y ∷ xs) x = joined_more p j (term.Join p j t (term_of y)) xs x

  joined_other : (p : Place) (j : Kind) (x y : Term) (ts : List Term) → IsOther (to.joined_behind p j (term.Join p j x y) ts)
  joined_other p j x y [] = λ o i. refl
  joined_other p j x y (t ∷ ts) = joined_other p j (term.Join p j x y) t ts

  joins : (p : Place) (j : Kind) {es : List CoreExpr} → AllSame es → (x : CoreExpr) (xs : List CoreExpr) (high : Term) → resolved here high ≡ Made (to.joined_behind p j (term_of x) (map term_of xs))
      → Same (made_map (λ ys. expression p j (tree.Join ys)) (all_behind (x ∷ xs) (map (λ e. e.made) (map (shown_in r) es)))) (resolved here (to.joined_behind p j high (map term_of es)))
  joins p j all_end x xs high e = subst (Same (Made (expression p j (tree.Join (x ∷ xs))))) (sym e) (made_same p j (tree.Join (x ∷ xs)) (to.joined_behind p j (term_of x) (map term_of xs)) refl)
  joins p j (all_more {e = a} {es = es} s w) x xs high e = by s refl (λ y h. joins p j w x (xs ++ y ∷ []) (term.Join p j high (term_of a)) h)
    where
      by : {u : Tried CoreExpr} {v : Tried Term} → Same u v → v ≡ resolved here (term_of a)
          → ((y : CoreExpr) → resolved here (term.Join p j high (term_of a)) ≡ Made (to.joined_behind p j (term_of x) (map term_of (xs ++ y ∷ [])))
          → Same (made_map (λ ys. expression p j (tree.Join ys)) (all_behind (x ∷ xs ++ y ∷ []) (map (λ e. e.made) (map (shown_in r) es)))) (resolved here (to.joined_behind p j (term.Join p j high (term_of a)) (map term_of es))))
          → Same (made_map (λ ys. expression p j (tree.Join ys)) (and_made u (λ y. all_behind (x ∷ xs ++ y ∷ []) (map (λ e. e.made) (map (shown_in r) es))))) (resolved here (to.joined_behind p j (term.Join p j high (term_of a)) (map term_of es)))
      by (stopped q) i f = subst (Same (Stopped q)) (sym (joined_stops p j q (term.Join p j high (term_of a)) (map term_of es) (ap (λ z. and_made z (λ m. made_map (term.Join p j m) (resolved here (term_of a)))) e ∙ ap (made_map (term.Join p j (to.joined_behind p j (term_of x) (map term_of xs)))) (sym i)))) (stopped q)
      by (makes y) i f = f y (ap (λ z. and_made z (λ m. made_map (term.Join p j m) (resolved here (term_of a)))) e ∙ ap (made_map (term.Join p j (to.joined_behind p j (term_of x) (map term_of xs)))) (sym i) ∙ ap Made (sym (joined_more p j (term_of x) xs y)))

  join_same : (p : Place) (j : Kind) (a b : CoreExpr) {es : List CoreExpr} → Same (expr_in r a) (resolved here (term_of a)) → Same (expr_in r b) (resolved here (term_of b)) → AllSame es
      → Same (made_map (λ ys. expression p j (tree.Join ys)) (and_made (expr_in r a) (λ x. and_made (expr_in r b) (λ y. all_behind (x ∷ y ∷ []) (map (λ e. e.made) (map (shown_in r) es))))))
      (resolved here (to.joined_behind p j (term.Join p j (term_of a) (term_of b)) (map term_of es)))
  join_same p j a b {es = es} s w h = by s refl w refl
    where
      by : {u z : Tried CoreExpr} {v d : Tried Term} → Same u v → v ≡ resolved here (term_of a) → Same z d → d ≡ resolved here (term_of b)
          → Same (made_map (λ ys. expression p j (tree.Join ys)) (and_made u (λ x. and_made z (λ y. all_behind (x ∷ y ∷ []) (map (λ e. e.made) (map (shown_in r) es)))))) (resolved here (to.joined_behind p j (term.Join p j (term_of a) (term_of b)) (map term_of es)))
      by (stopped q) i g k = subst (Same (Stopped q)) (sym (joined_stops p j q (term.Join p j (term_of a) (term_of b)) (map term_of es) (ap (λ z. and_made z (λ m. made_map (term.Join p j m) (resolved here (term_of b)))) (sym i)))) (stopped q)
      by (makes x) i (stopped q) k = subst (Same (Stopped q)) (sym (joined_stops p j q (term.Join p j (term_of a) (term_of b)) (map term_of es) (ap (λ z. and_made z (λ m. made_map (term.Join p j m) (resolved here (term_of b)))) (sym i) ∙ ap (made_map (term.Join p j (term_of x))) (sym k)))) (stopped q)
      by (makes x) i (makes y) k = joins p j h x (y ∷ []) (term.Join p j (term_of a) (term_of b)) (ap (λ z. and_made z (λ m. made_map (term.Join p j m) (resolved here (term_of b)))) (sym i) ∙ ap (made_map (term.Join p j (term_of x))) (sym k))

  -- ---- along the trees

  -- parts that go on as the definitions do
  abbrev AllParts : List CorePart → Type 0
  AllParts ps = (soft : Bool) (l : Left) (t : Tried (Option CoreLeft)) → Agrees t (walked here soft l) → Agrees (and_made t (walked_on (map (trees.part_in r) ps))) (walked here soft (to.extended l (map term_part ps)))

  no_parts : AllParts []
  no_parts soft l t a = subst (λ u. Agrees u (walked here soft l)) (sym (ended t)) a

  member_parts : (n : Name) (ps : List CorePart) → AllParts ps → AllParts (roll-CorePart (tree.Member n) ∷ ps)
  member_parts n ps f soft l t a =
      more_agrees (λ m. Made (member_in r m n)) (λ m. term.Member m n.0) (map (trees.part_in r) ps) (map term_part ps) soft l t (trees.part_in r (roll-CorePart (tree.Member n))) (part_shown (tree.Member n))
      (term_part (roll-CorePart (tree.Member n))) (part_term (tree.Member n)) (f soft (term.Member l n.0) (and_made t (one_part (λ m. Made (member_in r m n)))) (member_step n a))

  index_parts : (size : ℕ) → size < 4294967296 → (e : CoreExpr) (ps : List CorePart) → Same (expr_in r e) (resolved here (term_of e)) → ((x : CoreExpr) → expr_in r e ≡ Made x → IsFound r x) → AllParts ps → AllParts (roll-CorePart (tree.Index size e) ∷ ps)
  index_parts size g e ps s h f soft l t a =
      more_agrees (λ m. made_map (element_in r m size) (expr_in r e)) (λ m. term.Index m size (term_of e)) (map (trees.part_in r) ps) (map term_part ps) soft l t (trees.part_in r (roll-CorePart (tree.Index size e))) (part_shown (tree.Index size e))
      (term_part (roll-CorePart (tree.Index size e))) (part_term (tree.Index size e)) (f soft (term.Index l size (term_of e)) (and_made t (one_part (λ m. made_map (element_in r m size) (expr_in r e)))) (index_step size g s h a))

  cell_base : (n : ℕ) (p : Place) (soft : Bool) (ps : List CorePart) → AllParts ps → Agrees (base_shown r (roll-CoreBase (tree.Cell n)) p soft (map (trees.part_in r) ps)) (walked here soft (whole_left p (roll-CoreBase (tree.Cell n)) ps))
  cell_base n p soft ps f = from_layer (tree.Cell n) p soft (map (trees.part_in r) ps) (map term_part ps)
      (f soft (term.Cell p n) (Made (Some (start p (roll-CoreBase (tree.Cell n))))) (started p (tree.Cell n) (named_base_of (tree.Cell n) tt, tt) (term.Cell p n) refl))

  prefix_base : (name : CellName) → IsName name → (p : Place) (soft : Bool) (ps : List CorePart) → AllParts ps
      → Agrees (base_shown r (roll-CoreBase (tree.Prefix name)) p soft (map (trees.part_in r) ps)) (walked here soft (whole_left p (roll-CoreBase (tree.Prefix name)) ps))
  prefix_base name h p soft ps f = from_layer (tree.Prefix name) p soft (map (trees.part_in r) ps) (map term_part ps)
      (f soft (term.Prefix p (to.name_of name)) (Made (Some (start p (roll-CoreBase (tree.Prefix name))))) (started p (tree.Prefix name) (named_base_of (tree.Prefix name) h, tt) (term.Prefix p (to.name_of name)) refl))

  null_base : (p : Place) (soft : Bool) (ps : List CorePart) → AllParts ps → Agrees (base_shown r (roll-CoreBase tree.Null) p soft (map (trees.part_in r) ps)) (walked here soft (whole_left p (roll-CoreBase tree.Null) ps))
  null_base p soft ps f = from_layer tree.Null p soft (map (trees.part_in r) ps) (map term_part ps) (f soft (term.Null p) (Made None) at_null)

  follow_base : (own : Bool) (l : CoreLeft) → ((soft : Bool) → Agrees (walked_in r l soft) (walked here soft (left_of l)))
      → (p : Place) (soft : Bool) (ps : List CorePart) → AllParts ps → Agrees (base_shown r (roll-CoreBase (tree.Follow l own)) p soft (map (trees.part_in r) ps)) (walked here soft (whole_left p (roll-CoreBase (tree.Follow l own)) ps))
  follow_base own l a p soft ps f = from_layer (tree.Follow l own) p soft (map (trees.part_in r) ps) (map term_part ps)
      (subst (λ u. Agrees u (walked here soft (to.extended (term.Follow p own (left_of l)) (map term_part ps)))) (sym (begun (walked_in r l (soft || own)) p soft (map (trees.part_in r) ps)))
      (f soft (term.Follow p own (left_of l)) (and_made (walked_in r l (soft || own)) (λ at. and_made (leads_in r at) (turned p soft))) (follow_agrees p soft (a (soft || own)))))

  at_left : (p : Place) (b : CoreBase) (ps : List CorePart) (q : Option CorePick) (soft : Bool) → Agrees (base_shown r b p soft (map (trees.part_in r) ps)) (walked here soft (whole_left p b ps))
      → Agrees (walked_in r (location p b ps q) soft) (walked here soft (left_of (location p b ps q)))
  at_left p b ps q soft a =
      subst (λ u. Agrees u (walked here soft (left_of (location p b ps q)))) (sym (leads_at p b ps q soft))
      (subst (λ l. Agrees (base_shown r b p soft (map (trees.part_in r) ps)) (walked here soft l)) (sym (left_is (location p b ps q))) a)

  load_node : (p : Place) (j : Kind) (l : CoreLeft) (g : Gone) (t : to.Taken) → gone_in r l ≡ g → taken_of l ≡ t → Same (made_map (λ l. expression p j (tree.Load l)) (loaded_of r g)) (resolved here (load_in p j t)) → Same (expr_in r (made p j (tree.Load l))) (resolved here (term_of (made p j (tree.Load l))))
  load_node p j l g t e i s = from_node p j (tree.Load l)
      (subst (λ z. Same (made_map (λ l. expression p j (tree.Load l)) (loaded_of r z)) (resolved here (load_in p j (taken_of l)))) (sym e)
      (subst (λ z. Same (made_map (λ l. expression p j (tree.Load l)) (loaded_of r g)) (resolved here (load_in p j z))) (sym i) s))

  read_node : (p : Place) (j : Kind) (l : CoreLeft) (g : Gone) (t : to.Taken) → gone_in r l ≡ g → taken_of l ≡ t → Same (made_map (λ l. expression p j (tree.Read l)) (read_of r g)) (resolved here (read_in p j t)) → Same (expr_in r (made p j (tree.Read l))) (resolved here (term_of (made p j (tree.Read l))))
  read_node p j l g t e i s = from_node p j (tree.Read l)
      (subst (λ z. Same (made_map (λ l. expression p j (tree.Read l)) (read_of r z)) (resolved here (read_in p j (taken_of l)))) (sym e)
      (subst (λ z. Same (made_map (λ l. expression p j (tree.Read l)) (read_of r g)) (resolved here (read_in p j z))) (sym i) s))

  abbrev bit_pick : Kind → CoreExpr → CorePick
  bit_pick of e = roll-CorePick (tree.Bit of e)

  gone_bit : (p : Place) (b : CoreBase) (ps : List CorePart) (of : Kind) (e : CoreExpr) → gone_in r (location p b ps (Some (bit_pick of e))) ≡ gone_by p b ps (made_map Some (made_map (λ x. roll-CorePick (tree.Bit of x)) (expr_in r e))) false
  gone_bit p b ps of e = gone_some p b ps (bit_pick of e) ∙ ap (λ t. gone_by p b ps (made_map Some t) false) (bit_shown of e)

  gone_range : (p : Place) (b : CoreBase) (ps : List CorePart) (of : Kind) (h l : ℕ) → gone_in r (location p b ps (Some (roll-CorePick (tree.Range of h l)))) ≡ gone_by p b ps (made_map Some (Made (roll-CorePick (tree.Range of h l)))) false
  gone_range p b ps of h l = gone_some p b ps (roll-CorePick (tree.Range of h l)) ∙ ap (λ t. gone_by p b ps (made_map Some t) false) (range_shown of h l)

  taken_one : (p : Place) (b : CoreBase) (ps : List CorePart) (of : Kind) (e : CoreExpr) → taken_of (location p b ps (Some (bit_pick of e))) ≡ taken_by (whole_left p b ps) (term.OneBit (term_of e)) (Some of)
  taken_one p b ps of e = taken_some p b ps (bit_pick of e) ∙ ap (λ t. taken_by (whole_left p b ps) t.pick (Some t.of)) (bit_term of e)

  taken_bits : (p : Place) (b : CoreBase) (ps : List CorePart) (of : Kind) (h l : ℕ) → taken_of (location p b ps (Some (roll-CorePick (tree.Range of h l)))) ≡ taken_by (whole_left p b ps) (term.Bits h l) (Some of)
  taken_bits p b ps of h l = taken_some p b ps (roll-CorePick (tree.Range of h l)) ∙ ap (λ t. taken_by (whole_left p b ps) t.pick (Some t.of)) (range_term of h l)

  unloaded : (p : Place) (j : Kind) (o : Place) (b : CoreBase) (ps : List CorePart) (q : CorePick) → (shown_in r (made p j (tree.Load (location o b ps (Some q))))).load ≡ None
  unloaded p j o b ps q = ap (λ t. t.load) (shown_made p j (tree.Load (location o b ps (Some q)))) ∙ ap (λ g. if g.is_whole then Some (record { place = p; kind = j; from = g }) else None) (gone_some o b ps q)

  loaded_form : (p : Place) (j : Kind) (o : Place) (b : CoreBase) (ps : List CorePart) (q : CorePick) (t : to.Taken) → taken_of (location o b ps (Some q)) ≡ t → IsOther (load_in p j t) → Form (made p j (tree.Load (location o b ps (Some q))))
  loaded_form p j o b ps q t e h = other (unloaded p j o b ps q) (subst IsOther (sym (term_made p j (tree.Load (location o b ps (Some q))) ∙ ap (load_in p j) e)) h)

  read_other : (p : Place) (j : Kind) (t : to.Taken) → IsOther (read_in p j t)
  read_other p j t = by t.pick
    where
      by : (q : term.Pick) → IsOther (to.picked p j (term.Read p (unwrap_or t.of j) t.left) q)
      by term.Whole = λ o i. refl
      by (term.OneBit e) = λ o i. refl
      by (term.Bits h l) = λ o i. refl

  pick_other : (p : Place) (j : Kind) (x : Term) {q : CorePick} → IsFollowedPick r q → IsOther (to.picked p j x (term_pick q).pick)
  pick_other p j x (bit of {e = e} w) = subst (λ t. IsOther (to.picked p j x t.pick)) (sym (bit_term of e)) (λ o i. refl)
  pick_other p j x (range of h l) = subst (λ t. IsOther (to.picked p j x t.pick)) (sym (range_term of h l)) (λ o i. refl)

  mutual
    expr_same : {e : CoreExpr} → IsFollowed r e → Same (expr_in r e) (resolved here (term_of e))
    expr_same (literal p j w) = from_node p j (tree.Lit w) (made_same p j (tree.Lit w) (term.Literal p j w.bits) refl)
    expr_same (load p j w) = load_left p j w
    expr_same (read p j w) = read_left p j w
    expr_same (convert p j {e = e} w) = from_node p j (tree.Convert e) (convert_same p j (expr_same w))
    expr_same (unary p j o {a = a} w) = from_node p j (tree.Operate o a None) (unary_same p j o (expr_same w))
    expr_same (binary p j o {a = a} {b = b} v w) = from_node p j (tree.Operate o a (Some b)) (binary_same p j o (expr_same v) (expr_same w))
    expr_same (choose p j {t = t} {a = a} {b = b} u v w) = from_node p j (tree.Choose t a b) (choose_same p j (expr_same u) (expr_same v) (expr_same w))
    expr_same (pick p j {e = e} w (bit of {e = i} v)) = from_node p j (tree.Pick e (bit_pick of i))
        (subst (λ q. Same (bits_of r p j (expr_in r e) q (shown_in r e).load) (resolved here (to.picked p j (term_of e) (term_pick (bit_pick of i)).pick))) (sym (bit_shown of i))
        (subst (λ t. Same (bits_of r p j (expr_in r e) (made_map (λ x. roll-CorePick (tree.Bit of x)) (expr_in r i)) (shown_in r e).load) (resolved here (to.picked p j (term_of e) t.pick))) (sym (bit_term of i))
        (bit_same p j e (form w) (expr_same w) of i (expr_same v))))
    expr_same (pick p j {e = e} w (range of h l)) = from_node p j (tree.Pick e (roll-CorePick (tree.Range of h l)))
        (subst (λ q. Same (bits_of r p j (expr_in r e) q (shown_in r e).load) (resolved here (to.picked p j (term_of e) (term_pick (roll-CorePick (tree.Range of h l))).pick))) (sym (range_shown of h l))
        (subst (λ t. Same (bits_of r p j (expr_in r e) (Made (roll-CorePick (tree.Range of h l))) (shown_in r e).load) (resolved here (to.picked p j (term_of e) t.pick))) (sym (range_term of h l))
        (range_same p j e (form w) (expr_same w) of h l)))
    expr_same (join p j {a = a} {b = b} {es = es} v w x) = from_node p j (tree.Join (a ∷ b ∷ es)) (join_same p j a b (expr_same v) (expr_same w) (all_same x))

    all_same : {es : List CoreExpr} → AreFollowed r es → AllSame es
    all_same last = all_end
    all_same (next v w) = all_more (expr_same v) (all_same w)

    load_left : (p : Place) (j : Kind) {l : CoreLeft} → IsFollowedLeft r l → Same (expr_in r (made p j (tree.Load l))) (resolved here (term_of (made p j (tree.Load l))))
    load_left p j (left o {b = b} {ps = ps} v w whole) = load_node p j (location o b ps None) (gone_by o b ps (Made None) true) (taken_by (whole_left o b ps) term.Whole None) (gone_whole o b ps) (taken_whole o b ps)
        (load_whole p j o b ps (base_agrees v o false ps (parts_agree w)))
    load_left p j (left o {b = b} {ps = ps} v w (some (bit of {e = e} x))) = load_node p j (location o b ps (Some (bit_pick of e))) (gone_by o b ps (made_map Some (made_map (λ x. roll-CorePick (tree.Bit of x)) (expr_in r e))) false) (taken_by (whole_left o b ps) (term.OneBit (term_of e)) (Some of))
        (gone_bit o b ps of e) (taken_one o b ps of e) (load_bit p j o b ps (base_agrees v o false ps (parts_agree w)) of (term_of e) (expr_same x))
    load_left p j (left o {b = b} {ps = ps} v w (some (range of h l))) = load_node p j (location o b ps (Some (roll-CorePick (tree.Range of h l)))) (gone_by o b ps (made_map Some (Made (roll-CorePick (tree.Range of h l)))) false) (taken_by (whole_left o b ps) (term.Bits h l) (Some of))
        (gone_range o b ps of h l) (taken_bits o b ps of h l) (load_range p j o b ps (base_agrees v o false ps (parts_agree w)) of h l)

    read_left : (p : Place) (j : Kind) {l : CoreLeft} → IsFollowedLeft r l → Same (expr_in r (made p j (tree.Read l))) (resolved here (term_of (made p j (tree.Read l))))
    read_left p j (left o {b = b} {ps = ps} v w whole) = read_node p j (location o b ps None) (gone_by o b ps (Made None) true) (taken_by (whole_left o b ps) term.Whole None) (gone_whole o b ps) (taken_whole o b ps)
        (read_whole p j o b ps (base_agrees v o false ps (parts_agree w)))
    read_left p j (left o {b = b} {ps = ps} v w (some (bit of {e = e} x))) = read_node p j (location o b ps (Some (bit_pick of e))) (gone_by o b ps (made_map Some (made_map (λ x. roll-CorePick (tree.Bit of x)) (expr_in r e))) false) (taken_by (whole_left o b ps) (term.OneBit (term_of e)) (Some of))
        (gone_bit o b ps of e) (taken_one o b ps of e) (read_bit p j o b ps (base_agrees v o false ps (parts_agree w)) of (term_of e) (expr_same x))
    read_left p j (left o {b = b} {ps = ps} v w (some (range of h l))) = read_node p j (location o b ps (Some (roll-CorePick (tree.Range of h l)))) (gone_by o b ps (made_map Some (Made (roll-CorePick (tree.Range of h l)))) false) (taken_by (whole_left o b ps) (term.Bits h l) (Some of))
        (gone_range o b ps of h l) (taken_bits o b ps of h l) (read_range p j o b ps (base_agrees v o false ps (parts_agree w)) of h l)

    form : {e : CoreExpr} → IsFollowed r e → Form e
    form (literal p j w) = other_form p j (tree.Lit w) refl (λ o i. refl)
    form (load p j (left o {b = b} {ps = ps} v w whole)) = bare p j o b ps refl (base_agrees v o false ps (parts_agree w))
    form (load p j (left o {b = b} {ps = ps} v w (some (bit of {e = e} x)))) = loaded_form p j o b ps (bit_pick of e) (taken_by (whole_left o b ps) (term.OneBit (term_of e)) (Some of)) (taken_one o b ps of e) (λ o i. refl)
    form (load p j (left o {b = b} {ps = ps} v w (some (range of h l)))) = loaded_form p j o b ps (roll-CorePick (tree.Range of h l)) (taken_by (whole_left o b ps) (term.Bits h l) (Some of)) (taken_bits o b ps of h l) (λ o i. refl)
    form (read p j {l = l} w) = other_form p j (tree.Read l) refl (read_other p j (taken_of l))
    form (convert p j {e = e} w) = other_form p j (tree.Convert e) refl (λ o i. refl)
    form (unary p j o {a = a} w) = other_form p j (tree.Operate o a None) refl (λ o i. refl)
    form (binary p j o {a = a} {b = b} v w) = other_form p j (tree.Operate o a (Some b)) refl (λ o i. refl)
    form (choose p j {t = t} {a = a} {b = b} u v w) = other_form p j (tree.Choose t a b) refl (λ o i. refl)
    form (pick p j {e = e} {q = q} w v) = other_form p j (tree.Pick e q) refl (pick_other p j (term_of e) v)
    form (join p j {a = a} {b = b} {es = es} v w x) = other_form p j (tree.Join (a ∷ b ∷ es)) refl (joined_other p j (term_of a) (term_of b) (map term_of es))

    left_agrees : {l : CoreLeft} → IsFollowedLeft r l → (soft : Bool) → Agrees (walked_in r l soft) (walked here soft (left_of l))
    left_agrees (left p {b = b} {ps = ps} {q = q} v w x) soft = at_left p b ps q soft (base_agrees v p soft ps (parts_agree w))

    base_agrees : {b : CoreBase} → IsFollowedBase r b → (p : Place) (soft : Bool) (ps : List CorePart) → AllParts ps → Agrees (base_shown r b p soft (map (trees.part_in r) ps)) (walked here soft (whole_left p b ps))
    base_agrees (cell n) p soft ps f = cell_base n p soft ps f
    base_agrees (prefix name h) p soft ps f = prefix_base name h p soft ps f
    base_agrees (follow own {l = l} v) p soft ps f = follow_base own l (left_agrees v) p soft ps f
    base_agrees null p soft ps f = null_base p soft ps f

    parts_agree : {ps : List CorePart} → AreFollowedParts r ps → AllParts ps
    parts_agree none = no_parts
    parts_agree (member n {ps = ps} w) = member_parts n ps (parts_agree w)
    parts_agree (index size g {e = e} {ps = ps} v f w) = index_parts size g e ps (expr_same v) f (parts_agree w)

  same_is : {t : Tried CoreExpr} {d : Tried Term} → Same t d → made_map term_of t ≡ d
  same_is (stopped q) = refl
  same_is (makes x) = refl

  agrees_is : {t : Tried (Option CoreLeft)} {d : Tried (Option Left)} → Agrees t d → made_map target_of t ≡ d
  agrees_is (stops q) = refl
  agrees_is at_null = refl
  agrees_is (leads m h) = refl

  pub expr_is : {e : CoreExpr} → IsFollowed r e → made_map term_of (expr_in r e) ≡ resolved here (term_of e)
  expr_is w = same_is (expr_same w)

  pub left_agrees_is : {l : CoreLeft} → IsFollowedLeft r l → (soft : Bool) → made_map target_of (walked_in r l soft) ≡ walked here soft (left_of l)
  left_agrees_is w soft = agrees_is (left_agrees w soft)

  -- ---- locations that are assigned

  module _ (f : Left → term.Pick → Tried Code) where
    abbrev put_of : CoreLeft → Tried Code
    put_of n = f (taken_of n).left (taken_of n).pick

    abbrev take : Tried (Option CorePick) → CoreLeft → Tried CoreLeft
    take t m = and_made t (λ q. made_map (λ l. with_pick l q) (looked_in r m))

    abbrev take_left : Tried term.Pick → Left → Tried Code
    take_left t m = and_made t (λ k. and_made (looked here m) (λ m. f m k))

    sure_put : (p : Place) {t : Tried (Option CoreLeft)} {d : Tried (Option Left)} → Agrees t d → (g : CoreLeft → Tried CoreLeft) (h : Left → Tried Code) → ((m : CoreLeft) → IsSound r m → h (left_of m) ≡ and_made (g m) put_of)
        → and_made d (λ o. sure p o h) ≡ and_made (and_made t (λ o. and_made (sure_of p o) g)) put_of
    sure_put p (stops q) g h i = refl
    sure_put p at_null g h i = refl
    sure_put p (leads m s) g h i = i m s

    seen_put : {t : Tried CoreLeft} {d : Tried Left} → Looks t d → (q : Option CorePick) (k : term.Pick) → ((n : CoreLeft) → (taken_of (with_pick n q)).left ≡ left_of n) → ((n : CoreLeft) → (taken_of (with_pick n q)).pick ≡ k)
        → and_made d (λ m. f m k) ≡ and_made (made_map (λ l. with_pick l q) t) put_of
    seen_put (refuses q) o k g h = refl
    seen_put (sees n) o k g h = λ i. f (sym (g n) i) (sym (h n) i)

    put_by : (o : Place) (b : CoreBase) (ps : List CorePart) (q : Option CorePick) (t : Tried (Option CorePick)) (k : term.Pick) → Agrees (base_shown r b o false (map (trees.part_in r) ps)) (walked here false (whole_left o b ps))
        → gone_in r (location o b ps q) ≡ gone_by o b ps t (not (is_some q)) → (taken_of (location o b ps q)).left ≡ whole_left o b ps → (taken_of (location o b ps q)).pick ≡ k
        → ((m : CoreLeft) → IsSound r m → take_left (resolved_pick here k) (left_of m) ≡ and_made (take t m) put_of)
        → resolved_left here (taken_of (location o b ps q)).left (taken_of (location o b ps q)).pick f ≡ and_made (loaded_in r (location o b ps q)) put_of
    put_by o b ps q t k a e l j h =
        (λ i. resolved_left here (l i) (j i) f)
        ∙ (ap (λ p. and_made (walked here false (whole_left o b ps)) (λ u. sure p u (λ m. take_left (resolved_pick here k) m))) (place_whole o b ps)
        ∙ (sure_put o a (take t) (take_left (resolved_pick here k)) h ∙ ap (λ g. and_made (loaded_of r g) put_of) (sym e)))

    one_put : (of : Kind) (e : CoreExpr) {u : Tried CoreExpr} {v : Tried Term} → Same u v → (m : CoreLeft) → IsSound r m
        → take_left (made_map term.OneBit v) (left_of m) ≡ and_made (take (made_map Some (made_map (λ x. roll-CorePick (tree.Bit of x)) u)) m) put_of
    one_put of e (stopped q) m s = refl
    one_put of e (makes x) m s = seen_put (looked_looks m s) (Some (roll-CorePick (tree.Bit of x))) (term.OneBit (term_of x)) (λ n. ap (λ t. t.left) (taken_bit n of x)) (λ n. ap (λ t. t.pick) (taken_bit n of x))

    pub put_is : {l : CoreLeft} → IsFollowedLeft r l → resolved_left here (taken_of l).left (taken_of l).pick f ≡ and_made (loaded_in r l) put_of
    put_is (left o {b = b} {ps = ps} v w whole) = put_by o b ps None (Made None) term.Whole (base_agrees v o false ps (parts_agree w)) (gone_whole o b ps) (ap (λ t. t.left) (taken_whole o b ps)) (ap (λ t. t.pick) (taken_whole o b ps))
        (λ m s. seen_put (looked_looks m s) None term.Whole (λ n. ap (λ t. t.left) (taken_none n)) (λ n. ap (λ t. t.pick) (taken_none n)))
    put_is (left o {b = b} {ps = ps} v w (some (bit of {e = e} x))) = put_by o b ps (Some (bit_pick of e)) (made_map Some (made_map (λ x. roll-CorePick (tree.Bit of x)) (expr_in r e))) (term.OneBit (term_of e)) (base_agrees v o false ps (parts_agree w)) (gone_bit o b ps of e)
        (ap (λ t. t.left) (taken_one o b ps of e)) (ap (λ t. t.pick) (taken_one o b ps of e)) (λ m s. one_put of e (expr_same x) m s)
    put_is (left o {b = b} {ps = ps} v w (some (range of h l))) = put_by o b ps (Some (roll-CorePick (tree.Range of h l))) (made_map Some (Made (roll-CorePick (tree.Range of h l)))) (term.Bits h l) (base_agrees v o false ps (parts_agree w)) (gone_range o b ps of h l)
        (ap (λ t. t.left) (taken_bits o b ps of h l)) (ap (λ t. t.pick) (taken_bits o b ps of h l))
        (λ m s. seen_put (looked_looks m s) (Some (roll-CorePick (tree.Range of h l))) (term.Bits h l) (λ n. ap (λ t. t.left) (taken_range n of h l)) (λ n. ap (λ t. t.pick) (taken_range n of h l)))

  -- ---- targets

  aim_agrees : (p : Place) (l : Left) → place_at l ≡ p → {t : Tried (Option CoreLeft)} {d : Tried (Option Left)} → Agrees t d
      → Agrees (and_made t (aimed_or r p)) (and_made d (λ o. behind o (λ m. if unwrap_or (option_map chooses_object (pattern here.cells m)) false then Stopped (refused reason.StaticIndex (place_at m))
      else (if unwrap_or (option_map is_open (pattern here.cells m)) true then Stopped (refused reason.StaticIndex (place_at l)) else Made (Some m)))))
  aim_agrees p l e (stops q) = stops q
  aim_agrees p l e at_null = at_null
  aim_agrees p l e (leads m s) =
      subst (λ b. Agrees (made_map Some (aimed_in r m p)) (if b then Stopped (refused reason.StaticIndex (place_at (left_of m))) else (if unwrap_or (option_map is_open (pattern here.cells (left_of m))) true then Stopped (refused reason.StaticIndex (place_at l)) else Made (Some (left_of m))))) (chosen_is r m s.1)
      (subst (λ b. Agrees (made_map Some (aimed_in r m p)) (if is_chosen r m then Stopped (refused reason.StaticIndex (place_at (left_of m))) else (if b then Stopped (refused reason.StaticIndex (place_at l)) else Made (Some (left_of m))))) (open_is r m true s.1)
      (subst (λ z. Agrees (made_map Some (aimed_in r m p)) (if is_chosen r m then Stopped (refused reason.StaticIndex z) else (if is_one_of r m true then Stopped (refused reason.StaticIndex (place_at l)) else Made (Some (left_of m))))) (sym (place_is m))
      (subst (λ z. Agrees (made_map Some (aimed_in r m p)) (if is_chosen r m then Stopped (refused reason.StaticIndex m.place) else (if is_one_of r m true then Stopped (refused reason.StaticIndex z) else Made (Some (left_of m))))) (sym e)
      (by (is_chosen r m) (is_one_of r m true)))))
    where
      by : (b c : Bool) → Agrees (made_map Some (if b then Stopped (refused reason.StaticIndex m.place) else (if c then Stopped (refused reason.StaticIndex p) else Made m)))
          (if b then Stopped (refused reason.StaticIndex m.place) else (if c then Stopped (refused reason.StaticIndex p) else Made (Some (left_of m))))
      by true c = stops (refused reason.StaticIndex m.place)
      by false true = stops (refused reason.StaticIndex p)
      by false false = leads m s

  target_agrees : {l : CoreLeft} → IsFollowedLeft r l → Agrees (target_in r l) (aimed here (left_of l))
  target_agrees {l = l} w = aim_agrees l.place (left_of l) (place_is l) (left_agrees w true)

  pub target_is : {l : CoreLeft} → IsFollowedLeft r l → made_map target_of (target_in r l) ≡ aimed here (left_of l)
  target_is w = agrees_is (target_agrees w)

  sound_in : {t : Tried (Option CoreLeft)} {d : Tried (Option Left)} → Agrees t d → (m : CoreLeft) → t ≡ Made (Some m) → IsSound r m
  sound_in (stops q) m e = absurd cc
  sound_in at_null m e = absurd cc
  sound_in (leads n s) m e = subst (IsSound r) (same_some (same_made e)) s

  pub target_sound : {l : CoreLeft} → IsFollowedLeft r l → (m : CoreLeft) → target_in r l ≡ Made (Some m) → IsSound r m
  target_sound w m e = sound_in (target_agrees w) m e
