-- Reads, bits and concatenations are lowered by the rules, as expressions by their nodes.
use Rattle.std.proofs.Common.{unwrap_or, ◌≡◌, ℕ, suc, ◌+◌, ◌≤◌, List, [], ◌∷◌, map, length, Option, Some, None, slice_get, refl, sym, ◌∙◌, ap, subst, arith}
use Rattle.scc_base.specs.declared.refusal.Place.{Place}
use Rattle.scc_bits_kinds.specs.declared.kind.Kind.{Kind}
use Rattle.scc_bits_kinds.specs.Kinds.{width_of}
use Rattle.scc_bits.proofs.Validity.{width_valid}
use Rattle.scc_core.specs.declared.expr.CoreBase.{CoreBase}
use Rattle.scc_core.specs.declared.expr.CoreExpr.{CoreExpr}
use Rattle.scc_core.specs.declared.expr.CoreExprNode.{CoreExprNode, out-CoreExprNode}
use Rattle.scc_core.specs.declared.expr.CoreLeft.{CoreLeft, fold-roll-CoreLeft}
use Rattle.scc_core.specs.declared.expr.CorePart.{CorePart, out-CorePart}
use Rattle.scc_core.specs.declared.expr.CorePick.{CorePick, out-CorePick, map-CorePick, fold_out-CorePick}
use Rattle.scc_core.specs.declared.expr.CoreBase.TheOpen.{CorePick-F}
use Rattle.scc_core.specs.declared.expr.CoreBase.TheOpen as tree
use Rattle.scc_core.specs.Located.{named_in}
use Rattle.scc_core_spec.specs.Term.{Term, Left, Pick, kind_of}
use Rattle.scc_core_spec.specs.Term as core
use Rattle.scc_core_view.specs.Terms as to
use Rattle.scc_core_view.specs.Terms.{term_of}
use Rattle.scc_svtree.specs.Term as emitted
use Rattle.scc_svtree.specs.Code.{Code}
use Rattle.scc_blocks_spec.specs.Shown.{Sight}
use Rattle.scc_lower_laws.specs.Sequence.{then_code}
use Rattle.scc_lower_laws.specs.Joins.{LowersAll, joins, joined_text}
use Rattle.scc_lower_laws.specs.Lowers.{Lowers}
use Rattle.scc_lower_laws.specs.Outcome.{Outcome, Made, text_of}
use Rattle.scc_lower_laws.specs.Elements.{IsTaken}
use Rattle.scc_lower_laws.proofs.Joins.{join}
use Rattle.scc_lower_tree_laws.specs.Finding.{Reading, IsPick, Picking, PickingBy, AreSoundAll, LoweringAll, location_of, taken_by, taken_of}
use Rattle.scc_lower_tree_laws.specs.Becoming.{Becomes}
use Rattle.scc_lower_tree_laws.specs.Sound.{Layer, IsBits, IsFine, IsNode, IsRight, IsSound, IsWhole, AreJoined, Beneath, index as beneath-index, bit as beneath-bit, Under, within as under-within, of as under-of, at as under-at, joined as under-joined, left_of, of_kind, read_in, whole_in}
use Rattle.scc_lower_tree_laws.specs.Sound as need
use Rattle.scc_lower_tree_laws.specs.States.{State, Given, Sees, Agrees}
use Rattle.scc_lower_tree_laws.proofs.Expressions.{sound-here, sound-under, node-here, term_out, term_base, term_node, term_part, term_pick}
use Rattle.scc_lower_tree_laws.proofs.Leaving.{both-left, agrees-before, sees-on}
use Rattle.scc_lower_tree_laws.proofs.Picks.{open-bit}

-- ---- the terms of picks

abbrev PickLayer : Type 0
PickLayer = CorePick-F CoreBase CoreExprNode CorePart CorePick CoreExpr CoreLeft

-- the bits of a term by a pick
picked-layer : (p : Place) (k : Kind) (t : Term) (q : CorePick) → to.picked p k t (term_pick q).pick ≡ taken_by p k t (out-CorePick q)
picked-layer p k t q =
    ap (λ z. to.picked p k t z.pick) (fold_out-CorePick to.Base to.Node (Left → Left) to.Picking Term to.Taken to.base_node to.expr_node to.part_node to.pick_node to.expr_step to.left_step q)
    ∙ by (out-CorePick q)
  where
    by : (y : PickLayer)
        → to.picked p k t (to.pick_node (map-CorePick CoreBase CoreExprNode CorePart CorePick CoreExpr CoreLeft to.Base to.Node (Left → Left) to.Picking Term to.Taken term_base term_node term_part term_pick to.term_of to.taken_of y)).pick ≡ taken_by p k t y
    by (tree.Bit j i) = refl
    by (tree.Range j h l) = refl

-- the kind of the whole
of-layer : (q : CorePick) → (term_pick q).of ≡ of_kind (out-CorePick q)
of-layer q =
    ap (λ z. z.of) (fold_out-CorePick to.Base to.Node (Left → Left) to.Picking Term to.Taken to.base_node to.expr_node to.part_node to.pick_node to.expr_step to.left_step q)
    ∙ by (out-CorePick q)
  where
    by : (y : PickLayer)
        → (to.pick_node (map-CorePick CoreBase CoreExprNode CorePart CorePick CoreExpr CoreLeft to.Base to.Node (Left → Left) to.Picking Term to.Taken term_base term_node term_part term_pick to.term_of to.taken_of y)).of ≡ of_kind y
    by (tree.Bit j i) = refl
    by (tree.Range j h l) = refl

-- what is taken of a location, by what reads the whole of it
picked-left : (p : Place) (k : Kind) (r : Kind → Term) (l : CoreLeft) → to.picked p k (r (unwrap_or (to.taken_of l).of k)) (to.taken_of l).pick ≡ taken_of p k (r (whole_in k l.pick)) l.pick
picked-left p k r l = by l.place l.base l.parts l.pick
  where
    by : (place : Place) (base : CoreBase) (parts : List CorePart) (q : Option CorePick)
        → to.picked p k (r (unwrap_or (to.taken_of (record { place = place; base = base; parts = parts; pick = q })).of k)) (to.taken_of (record { place = place; base = base; parts = parts; pick = q })).pick ≡ taken_of p k (r (whole_in k q)) q
    by place base parts None =
        ap (λ z. to.picked p k (r (unwrap_or z.of k)) z.pick) (fold-roll-CoreLeft to.Base to.Node (Left → Left) to.Picking Term to.Taken to.base_node to.expr_node to.part_node to.pick_node to.expr_step to.left_step (record { place = place; base = base; parts = parts; pick = None }))
    by place base parts (Some q) =
        ap (λ z. to.picked p k (r (unwrap_or z.of k)) z.pick) (fold-roll-CoreLeft to.Base to.Node (Left → Left) to.Picking Term to.Taken to.base_node to.expr_node to.part_node to.pick_node to.expr_step to.left_step (record { place = place; base = base; parts = parts; pick = Some q }))
        ∙ ap (λ j. to.picked p k (r j) (term_pick q).pick) (of-layer q)
        ∙ picked-layer p k (r (of_kind (out-CorePick q))) q

some-left : (m n : CoreLeft) → ◌≡◌ {A = Option CoreLeft} (Some m) (Some n) → m ≡ n
some-left m n e = cc

-- ---- reads of locations

module _ (g : Given) where
  parts-sound : (s : Sight) (e : CoreExpr) (l : CoreLeft) → read_in (out-CoreExprNode e.node) ≡ Some l → IsSound g s e → (i : CoreExpr) (n size : ℕ) (x : CorePart) → slice_get l.parts n ≡ Some x → out-CorePart x ≡ tree.Index size i → IsSound g s i
  parts-sound s e l q h i n size x at is = sound-under g s e i (under-within l i q (beneath-index n size x i at is)) h

  is-pick : (s : Sight) (e : CoreExpr) (l : CoreLeft) (bits : ℕ) (whole k : Kind) → read_in (out-CoreExprNode e.node) ≡ Some l → IsSound g s e → (o : Option CorePick) → l.pick ≡ o → whole ≡ whole_in k o → need.IsTaken g s bits k o → IsPick g s bits whole k o
  is-pick s e l bits whole k q h None is w t = sym w
  is-pick s e l bits whole k q h (Some p) is w t = (t, λ j i at. sound-under g s e i (under-within l i q (beneath-bit p j i is at)) h)

  reading-of : (e : CoreExpr) (l : CoreLeft) (a b : State) (t : emitted.Term) (s : Sight) (width : ℕ → ℕ) (r : Term) → (h : Reading g l l.pick e.kind a t b) → read_in (out-CoreExprNode e.node) ≡ Some l → IsRight g s e.kind l → IsSound g s e
      → IsTaken s r (left_of l) → kind_of r ≡ whole_in e.kind l.pick → Sees g.cells a.views s width → Agrees s width b.temporaries
      → Lowers s width (length a.temporaries) (length b.temporaries) (taken_of e.place e.kind r l.pick) h.leaves.front (Made t)
  reading-of e l a b t s width r h q right sound taken kind sees agrees =
      let K : Kind → Type 0 = λ k. need.IsTaken g s (width_of k) e.kind l.pick in
      let S : Kind → Type 0 = λ k. 1 ≤ width_of k in
      let F : Kind → Type 0 = λ k. width_of k ≤ 128 in
      let P : Kind → Type 0 = λ k. need.IsPlaced s (width_of k) l (named_in g.known l) in
      h.lowers s width sees agrees e.place r taken (subst S (sym kind) right.some) (subst F (sym kind) right.few) (subst P (sym kind) right.placed) (parts-sound s e l q sound)
      (is-pick s e l (width_of (kind_of r)) (kind_of r) e.kind q sound l.pick refl kind (subst K (sym kind) right.taken))

  pub lowering-load : (e : CoreExpr) (l : CoreLeft) (a b : State) (t : emitted.Term) → out-CoreExprNode e.node ≡ tree.Load l → Reading g l l.pick e.kind a t b → Becomes g e a (Made t) b
  lowering-load e l a b t q h = record {
    leaves = h.leaves;
    lowers = λ s width sees agrees sound. (
        let r : Term = core.Load e.place (whole_in e.kind l.pick) (left_of l) in
        let P : Term → Type 0 = λ z. Lowers s width (length a.temporaries) (length b.temporaries) z h.leaves.front (Made t) in
        let is : term_of e ≡ taken_of e.place e.kind r l.pick = term_out e (tree.Load l) q ∙ picked-left e.place e.kind (λ j. core.Load e.place j (left_of l)) l in
        subst P (sym is) (reading-of e l a b t s width r h (ap read_in q) (node-here g s e (tree.Load l) q sound) sound (λ z. refl) refl sees agrees));
  }

  pub lowering-read : (e : CoreExpr) (l : CoreLeft) (a b : State) (t : emitted.Term) → out-CoreExprNode e.node ≡ tree.Read l → Reading g l l.pick e.kind a t b → Becomes g e a (Made t) b
  lowering-read e l a b t q h = record {
    leaves = h.leaves;
    lowers = λ s width sees agrees sound. (
        let r : Term = core.Read e.place (whole_in e.kind l.pick) (left_of l) in
        let P : Term → Type 0 = λ z. Lowers s width (length a.temporaries) (length b.temporaries) z h.leaves.front (Made t) in
        let is : term_of e ≡ taken_of e.place e.kind r l.pick = term_out e (tree.Read l) q ∙ picked-left e.place e.kind (λ j. core.Read e.place j (left_of l)) l in
        subst P (sym is) (reading-of e l a b t s width r h (ap read_in q) (node-here g s e (tree.Read l) q sound) sound (λ z. refl) refl sees agrees));
  }

  -- ---- bits of a value

  -- what reads a location as a whole
  record Reads (s : Sight) (f : CoreExpr) (l : CoreLeft) : Type 0 where
    taken : IsTaken s (term_of f) (left_of l)
    kind : kind_of (term_of f) ≡ whole_in f.kind l.pick
    right : IsRight g s f.kind l

  reads-of : (s : Sight) (f : CoreExpr) (l : CoreLeft) → read_in (out-CoreExprNode f.node) ≡ Some l → IsWhole g s (read_in (out-CoreExprNode f.node)) → IsSound g s f → Reads s f l
  reads-of s f l is whole sound = by (out-CoreExprNode f.node) refl is
    where
      none : l.pick ≡ None
      none = let P : Option CoreLeft → Type 0 = λ o. IsWhole g s o in subst P is whole

      by : (y : Layer) → out-CoreExprNode f.node ≡ y → read_in y ≡ Some l → Reads s f l
      by (tree.Load m) q e =
          let same : m ≡ l = some-left m l e in
          let at : out-CoreExprNode f.node ≡ tree.Load l = q ∙ ap tree.Load same in
          let r : Term = core.Load f.place (whole_in f.kind l.pick) (left_of l) in
          let is : term_of f ≡ r = term_out f (tree.Load l) at ∙ picked-left f.place f.kind (λ j. core.Load f.place j (left_of l)) l ∙ ap (λ o. taken_of f.place f.kind r o) none in
          let P : Term → Type 0 = λ z. IsTaken s z (left_of l) in
          record { taken = subst P (sym is) (λ z. refl); kind = ap kind_of is; right = node-here g s f (tree.Load l) at sound }
      by (tree.Read m) q e =
          let same : m ≡ l = some-left m l e in
          let at : out-CoreExprNode f.node ≡ tree.Read l = q ∙ ap tree.Read same in
          let r : Term = core.Read f.place (whole_in f.kind l.pick) (left_of l) in
          let is : term_of f ≡ r = term_out f (tree.Read l) at ∙ picked-left f.place f.kind (λ j. core.Read f.place j (left_of l)) l ∙ ap (λ o. taken_of f.place f.kind r o) none in
          let P : Term → Type 0 = λ z. IsTaken s z (left_of l) in
          record { taken = subst P (sym is) (λ z. refl); kind = ap kind_of is; right = node-here g s f (tree.Read l) at sound }
      by (tree.Lit w) q e = absurd (cc)
      by (tree.Convert x) q e = absurd (cc)
      by (tree.Operate o x y) q e = absurd (cc)
      by (tree.Choose x y z) q e = absurd (cc)
      by (tree.Pick x y) q e = absurd (cc)
      by (tree.Join xs) q e = absurd (cc)

  pub lowering-pick : (e f : CoreExpr) (q : CorePick) (a b : State) (t : emitted.Term) → out-CoreExprNode e.node ≡ tree.Pick f q → Picking g f q e.kind a t b → Becomes g e a (Made t) b
  lowering-pick e f q a b t at h = by (location_of f) refl h
    where
      term-is : (s : Sight) → term_of e ≡ taken_by e.place e.kind (term_of f) (out-CorePick q)
      term-is s = term_out e (tree.Pick f q) at ∙ picked-layer e.place e.kind (term_of f) q

      by : (o : Option CoreLeft) → location_of f ≡ o → PickingBy g o f q e.kind a t b → Becomes g e a (Made t) b
      by (Some l) is h = record {
        leaves = h.leaves;
        lowers = λ s width sees agrees sound. (
            let inner = sound-under g s e f (under-of f q at) sound in
            let rule = node-here g s e (tree.Pick f q) at sound in
            let r = reads-of s f l is rule.1 inner in
            let P : Term → Type 0 = λ z. Lowers s width (length a.temporaries) (length b.temporaries) z h.leaves.front (Made t) in
            let S : Kind → Type 0 = λ k. 1 ≤ width_of k in
            let F : Kind → Type 0 = λ k. width_of k ≤ 128 in
            let W : Kind → Type 0 = λ k. need.IsPlaced s (width_of k) l (named_in g.known l) in
            subst P (sym (term-is s))
            (h.lowers s width sees agrees e.place (term_of f) r.taken (subst S (sym r.kind) r.right.some) (subst F (sym r.kind) r.right.few) (subst W (sym r.kind) r.right.placed) (parts-sound s f l is inner)
            (rule.0, λ j i bit. sound-under g s e i (under-at f i q j at bit) sound)));
      }
      by None is h = record {
        leaves = both-left a h.between b h.first.leaves h.second.indexing.leaves;
        lowers = λ s width sees agrees sound. (
            let inner = sound-under g s e f (under-of f q at) sound in
            let index = sound-under g s e h.index (under-at f h.index q h.of at h.is_bit) sound in
            let rule = node-here g s e (tree.Pick f q) at sound in
            let fine = sound-here g s f inner in
            let wide = width_valid f.kind fine.valid in
            let B : PickLayer → Type 0 = λ y. IsBits g s (width_of (kind_of (term_of f))) e.kind y in
            let bit : IsBits g s (width_of (kind_of (term_of f))) e.kind (tree.Bit h.of h.index) = subst B h.is_bit rule.0 in
            let S : Kind → Type 0 = λ k. 1 ≤ width_of k in
            let F : Kind → Type 0 = λ k. width_of k ≤ 128 in
            let front = then_code h.first.leaves.front h.second.indexing.leaves.front in
            let P : Term → Type 0 = λ z. Lowers s width (length a.temporaries) (length b.temporaries) z front (Made t) in
            subst P (sym (term-is s ∙ ap (taken_by e.place e.kind (term_of f)) h.is_bit))
            (open-bit g (term_of f) h.index a h.between b (text_of h.outcome) t h.first.leaves.front s width e.place h.second
            (sees-on g.cells s width a h.between h.first.leaves sees) agrees index (subst S (sym fine.kind) wide.0) (subst F (sym fine.kind) wide.1) bit.1 h.outcome refl
            (h.first.lowers s width sees (agrees-before s width h.between b h.second.indexing.leaves agrees) inner)));
      }

  -- ---- concatenations

  all-sound : (s : Sight) (e : CoreExpr) (es : List CoreExpr) → out-CoreExprNode e.node ≡ tree.Join es → IsSound g s e → (fs : List CoreExpr) (from : ℕ) → ((n : ℕ) (f : CoreExpr) → slice_get fs n ≡ Some f → slice_get es (from + n) ≡ Some f) → AreSoundAll g s fs
  all-sound s e es q h [] from k = tt
  all-sound s e es q h (f ∷ fs) from k = (
    sound-under g s e f (under-joined (from + 0) f es q (k 0 f refl)) h,
    all-sound s e es q h fs (from + 1) (λ n x at. (let p : from + 1 + n ≡ from + suc n = omega arith in ap (λ m. slice_get es m) p ∙ k (suc n) x at)),
  )

  same-joins : (p : Place) (k : Kind) (t : Term) (es : List CoreExpr) → to.joined_behind p k t (map to.term_of es) ≡ joins p k t (map term_of es)
  same-joins p k t [] = refl
  same-joins p k t (e ∷ es) = same-joins p k (core.Join p k t (to.term_of e)) es

  joins-kind : (p : Place) (k : Kind) (t : Term) (ts : List Term) → kind_of t ≡ k → kind_of (joins p k t ts) ≡ k
  joins-kind p k t [] e = e
  joins-kind p k t (u ∷ ts) e = joins-kind p k (core.Join p k t u) ts refl

  join-all : (s : Sight) (width : ℕ → ℕ) (n m : ℕ) (c : Code) (p : Place) (k : Kind) (es : List CoreExpr) (os : List Outcome) → AreJoined g s k es → LowersAll s width n m (map term_of es) c os
      → Lowers s width n m (to.joined p k (map to.term_of es)) c (Made (joined_text os))
  join-all s width n m c p k [] os rule h = absurd rule
  join-all s width n m c p k (e ∷ es) [] rule h = absurd h
  join-all s width n m c p k (e ∷ []) (o ∷ os) rule h = join s width n m c p k (term_of e) [] o os rule.0 rule.1 h
  join-all s width n m c p k (e ∷ f ∷ fs) (o ∷ os) rule h =
      let P : Term → Type 0 = λ z. Lowers s width n m z c (Made (joined_text (o ∷ os))) in
      subst P (sym (same-joins p k (to.term_of e) (f ∷ fs)))
      (join s width n m c p k (term_of e) (map term_of (f ∷ fs)) o os (joins-kind p k (core.Join p k (term_of e) (term_of f)) (map term_of fs) refl) rule h)

  pub lowering-join : (e : CoreExpr) (es : List CoreExpr) (a b : State) (os : List Outcome) (t : emitted.Term) → out-CoreExprNode e.node ≡ tree.Join es → t ≡ joined_text os → LoweringAll g es a os b → Becomes g e a (Made t) b
  lowering-join e es a b os t q is h = record {
    leaves = h.leaves;
    lowers = λ s width sees agrees sound. (
        let parts = h.parts s width sees agrees (all-sound s e es q sound es 0 (λ n f at. (let z : 0 + n ≡ n = omega arith in ap (λ m. slice_get es m) z ∙ at))) in
        let P : Term → Type 0 = λ z. Lowers s width (length a.temporaries) (length b.temporaries) z h.leaves.front (Made t) in
        let R : emitted.Term → Type 0 = λ u. Lowers s width (length a.temporaries) (length b.temporaries) (to.joined e.place e.kind (map to.term_of es)) h.leaves.front (Made u) in
        subst P (sym (term_out e (tree.Join es) q)) (subst R (sym is) (join-all s width (length a.temporaries) (length b.temporaries) h.leaves.front e.place e.kind es os (node-here g s e (tree.Join es) q sound) parts.all)));
  }
