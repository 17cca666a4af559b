-- What is read of locations, and bits of values, are lowered by the rules.
use Rattle.std.proofs.Common.{◌≡◌, ◌⊎◌, inl, inr, ℕ, ◌+◌, ◌-◌, ◌<◌, ◌≤◌, ◌^◌, List, [], ◌∷◌, length, Option, Some, None, slice_get, refl, sym, ◌∙◌, ap, subst, arith}
use Rattle.scc_base.specs.declared.refusal.Place.{Place}
use Rattle.scc_bits_kinds.specs.declared.kind.Kind.{Kind}
use Rattle.scc_bits_kinds.specs.Kinds.{IsValid, width_of}
use Rattle.scc_bits.specs.Value.{Number}
use Rattle.scc_core.specs.declared.expr.CoreBase.{CoreBase}
use Rattle.scc_core.specs.declared.expr.CoreExpr.{CoreExpr}
use Rattle.scc_core.specs.declared.expr.CoreExprNode.{CoreExprNode}
use Rattle.scc_core.specs.declared.expr.CoreLeft.{CoreLeft}
use Rattle.scc_core.specs.declared.expr.CorePart.{CorePart, out-CorePart}
use Rattle.scc_core.specs.declared.expr.CorePick.{CorePick, out-CorePick}
use Rattle.scc_core.specs.declared.expr.CoreBase.TheOpen.{CorePick-F}
use Rattle.scc_core.specs.declared.expr.CoreBase.TheOpen as tree
use Rattle.scc_core.specs.declared.named.Dim.{Dim}
use Rattle.scc_core.specs.declared.named.Named.{Named}
use Rattle.scc_core.specs.declared.program.Cell.{Cell as Held}
use Rattle.scc_core.specs.Known.{facts_in}
use Rattle.scc_core.specs.Located.{named_in}
use Rattle.scc_core.specs.Numbers.{small}
use Rattle.scc_core.specs.Statics.{value_in}
use Rattle.scc_core_spec.specs.Term.{Term, Left, kind_of}
use Rattle.scc_core_spec.specs.Term as core
use Rattle.scc_core_spec.specs.Uses.{width_at}
use Rattle.scc_core_view.proofs.StaticNumbers.{index_told}
use Rattle.scc_semantics.specs.Scene.{index_of}
use Rattle.scc_svtree.specs.Term as emitted
use Rattle.scc_svtree.specs.Code.{Code, End}
use Rattle.scc_blocks_spec.specs.Shown.{Sight}
use Rattle.scc_lower_spec.specs.Selected.{bit_term}
use Rattle.scc_lower_laws.specs.Sequence.{then_code}
use Rattle.scc_lower_laws.specs.Lowers.{Lowers}
use Rattle.scc_lower_laws.specs.Outcome.{Outcome, Made, text_of}
use Rattle.scc_lower_laws.specs.Elements.{IsTaken, Shown, KnowsIndex, IsIndexKind, ShowsElement, variable_of}
use Rattle.scc_lower_laws.proofs.Indices.{index-behind}
use Rattle.scc_lower_laws.proofs.Loads.{nowhere, nowhere-range, nowhere-bit, bit-past, taken-whole, taken-range, taken-bit, bit-open}
use Rattle.scc_lower_laws.proofs.Rules.{extended}
use Rattle.scc_core_view.specs.Terms.{term_of}
use Rattle.scc_lower_tree_laws.specs.Choosing.{Opened, slots_of, AreRead, ReadsElement}
use Rattle.scc_lower_tree_laws.specs.Finding.{Chosen, Found, AreChosen, IsFoundAt, AreSound, Opening, Reading, BitAt, IsKnownBit, IsPick, taken_by, taken_of}
use Rattle.scc_lower_tree_laws.specs.Sound.{IsBits, IsSound, IsPlace, IsPlaced, left_of}
use Rattle.scc_lower_tree_laws.specs.States.{State, Given, Sees, Agrees}
use Rattle.scc_lower_tree_laws.proofs.Expressions.{sound-here}
use Rattle.scc_lower_tree_laws.proofs.Leaving.{none-left, both-left, agrees-before, sees-on}
use Rattle.scc_lower_tree_laws.proofs.Opening.{matched}
use Rattle.scc_lower_tree_laws.proofs.Trees.{cell-wide}

-- what is known of the indices of a location
abbrev pub SoundParts : Given → Sight → CoreLeft → Type 0
SoundParts g s l = (i : CoreExpr) (n size : ℕ) (x : CorePart) → slice_get l.parts n ≡ Some x → out-CorePart x ≡ tree.Index size i → IsSound g s i

pub chosen-sound : (g : Given) (s : Sight) (l : CoreLeft) (ds : List Dim) (cs : List Chosen) → AreChosen l.parts ds cs → SoundParts g s l → AreSound g s cs
chosen-sound g s l [] [] h f = tt
chosen-sound g s l [] (c ∷ cs) h f = absurd h
chosen-sound g s l (d ∷ ds) [] h f = absurd h
chosen-sound g s l (d ∷ ds) (c ∷ cs) h f = (f c.index d.part h.0.size h.0.part h.0.stands h.0.is_index, chosen-sound g s l ds cs h.1 f)

module _ (g : Given) where
  place-of : (s : Sight) (bits : ℕ) (l : CoreLeft) (f : Found) → (h : IsFoundAt g l f) → IsPlaced s bits l (named_in g.known l) → IsPlace s bits l h.named
  place-of s bits l f h p = let P : Option Named → Type 0 = λ o. IsPlaced s bits l o in subst P h.is p

  -- the width of what is found is that of its first cell
  wide-of : (s : Sight) (width : ℕ → ℕ) (views : _) (bits : ℕ) (l : CoreLeft) (f : Found) (cell : Held) → (h : IsFoundAt g l f) → Sees g.cells views s width → IsPlaced s bits l (named_in g.known l) → slice_get g.cells f.first ≡ Some cell → width_of cell.kind ≡ bits
  wide-of s width views bits l f cell h sees p e =
      sym (cell-wide g.cells views s width f.first cell sees e) ∙ ap (λ n. width_at s.cells n) h.first ∙ (place-of s bits l f h p).first

  shown-of : (l : CoreLeft) (f : Found) (os : List Opened) (a b : State) (hi lo : ℕ) (t : emitted.Term) (h : IsFoundAt g l f) (op : Opening g f.dims a os b) → ReadsElement g b.views os f.first hi lo t
      → (s : Sight) (width : ℕ → ℕ) → Sees g.cells a.views s width → Agrees s width b.temporaries → (bits : ℕ) → bits ≤ 128 → IsPlaced s bits l (named_in g.known l) → SoundParts g s l → lo ≤ hi → hi < bits
      → Shown s width (length a.temporaries) (length b.temporaries) bits (left_of l) op.leaves.front hi lo t
  shown-of l f os a b hi lo t h op read s width sees agrees bits few placed sound order top =
      let place = place-of s bits l f h placed in
      let y = op.opens s width sees agrees (chosen-sound g s l h.named.dims f.dims h.dims sound) in
      let m = length b.temporaries in
      let r = matched s width (length a.temporaries) m l.parts h.named.dims place.dimensions f.dims os op.leaves.front place.are h.dims op.sizes y.all in
      let P : ℕ → Type 0 = λ n. AreRead s bits n place.dimensions in
      let Q : ℕ → Type 0 = λ n. ShowsElement s width m bits (slots_of os) place.dimensions n hi lo t in
      let here : AreRead s bits h.named.base place.dimensions = place.cells in
      record {
        grows = y.grows;
        makes = y.makes;
        first = h.named.base;
        dimensions = place.dimensions;
        slots = slots_of os;
        found = place.found;
        indices = r.indices;
        element = subst Q h.first (read s width m bits place.dimensions (sees-on g.cells s width a b op.leaves sees) r.open_ r.below (subst P (sym h.first) here) few order top);
      }

  -- all bits of it
  whole-of : (l : CoreLeft) (f : Found) (os : List Opened) (a b : State) (hi lo : ℕ) (t : emitted.Term) (cell : Held) (h : IsFoundAt g l f) (op : Opening g f.dims a os b) → slice_get g.cells f.first ≡ Some cell → hi + 1 ≡ width_of cell.kind → lo ≡ 0 → ReadsElement g b.views os f.first hi lo t
      → (s : Sight) (width : ℕ → ℕ) → Sees g.cells a.views s width → Agrees s width b.temporaries → (e : Term) → IsTaken s e (left_of l) → 1 ≤ width_of (kind_of e) → width_of (kind_of e) ≤ 128 → IsPlaced s (width_of (kind_of e)) l (named_in g.known l) → SoundParts g s l
      → Lowers s width (length a.temporaries) (length b.temporaries) e op.leaves.front (Made t)
  whole-of l f os a b hi lo t cell h op get high low read s width sees agrees e taken some few placed sound =
      let bits = width_of (kind_of e) in
      let same : width_of cell.kind ≡ bits = wide-of s width a.views bits l f cell h sees placed get in
      let order : lo ≤ hi = omega (arith, low) in
      let top : hi < bits = omega (arith, high, same) in
      let last : hi ≡ bits - 1 = omega (arith, high, same) in
      let P : ℕ → Type 0 = λ n. Shown s width (length a.temporaries) (length b.temporaries) bits (left_of l) op.leaves.front n lo t in
      let Q : ℕ → Type 0 = λ n. Shown s width (length a.temporaries) (length b.temporaries) bits (left_of l) op.leaves.front (bits - 1) n t in
      taken-whole s width (length a.temporaries) (length b.temporaries) e (left_of l) op.leaves.front t sees.number some taken
      (subst Q low (subst P last (shown-of l f os a b hi lo t h op read s width sees agrees bits few placed sound order top)))

  pub reading-whole : (l : CoreLeft) (k : Kind) (f : Found) (os : List Opened) (a b : State) (hi lo : ℕ) (t : emitted.Term) (cell : Held) → IsFoundAt g l f → Opening g f.dims a os b → slice_get g.cells f.first ≡ Some cell → hi + 1 ≡ width_of cell.kind → lo ≡ 0 → ReadsElement g b.views os f.first hi lo t
      → Reading g l None k a t b
  reading-whole l k f os a b hi lo t cell h op get high low read = record {
    leaves = op.leaves;
    lowers = λ s width sees agrees p e taken some few placed sound pick. whole-of l f os a b hi lo t cell h op get high low read s width sees agrees e taken some few placed sound;
  }

  pub reading-range : (l : CoreLeft) (k : Kind) (f : Found) (os : List Opened) (a b : State) (q : CorePick) (j : Kind) (hi lo : ℕ) (t : emitted.Term) → out-CorePick q ≡ tree.Range j hi lo → IsFoundAt g l f → Opening g f.dims a os b → ReadsElement g b.views os f.first hi lo t
      → Reading g l (Some q) k a t b
  reading-range l k f os a b q j hi lo t is h op read = record {
    leaves = op.leaves;
    lowers = λ s width sees agrees p e taken some few placed sound pick. (
        let bits = width_of (kind_of e) in
        let B : CorePick-F CoreBase CoreExprNode CorePart CorePick CoreExpr CoreLeft → Type 0 = λ y. IsBits g s bits k y in
        let rule : IsBits g s bits k (tree.Range j hi lo) = subst B is pick.0 in
        let P : CorePick-F CoreBase CoreExprNode CorePart CorePick CoreExpr CoreLeft → Type 0 = λ y. Lowers s width (length a.temporaries) (length b.temporaries) (taken_by p k e y) op.leaves.front (Made t) in
        subst P (sym is)
        (taken-range s width (length a.temporaries) (length b.temporaries) p k e hi lo (left_of l) op.leaves.front t sees.number rule.2 taken
        (shown-of l f os a b hi lo t h op read s width sees agrees bits few placed sound rule.0 rule.1)));
  }

  -- ---- a bit under a known index

  pub knows-index : (s : Sight) (i : CoreExpr) (v : Number) (b : ℕ) → value_in (facts_in g.known) i ≡ Some v → IsSound g s i → index_of v.kind v.word ≡ b → KnowsIndex s (term_of i) b
  knows-index s i v b e sound told a x w fits shows is =
      let fine = sound-here g s i sound in
      let value = fine.value v e in
      (λ n. index_of (fine.kind n) (value.1.is a x w fits shows is n)) ∙ ap (λ k. index_of k v.word) (sym value.0) ∙ told

  pub index-number : (s : Sight) (i : CoreExpr) (v : Number) → value_in (facts_in g.known) i ≡ Some v → IsSound g s i → ((m : ℕ) × (small v ≡ Some m) × (index_of v.kind v.word ≡ m)) ⊎ ((small v ≡ None) × (4294967296 ≤ index_of v.kind v.word))
  index-number s i v e sound =
      let fine = sound-here g s i sound in
      let value = fine.value v e in
      let V : Kind → Type 0 = λ k. IsValid k in
      let F : Kind → Type 0 = λ k. v.word < 2 ^ width_of k in
      index_told v.kind v.word (subst V (sym value.0) fine.valid) (subst F (fine.kind ∙ sym value.0) value.1.fits)

  past-in : (l : CoreLeft) (f : Found) (os : List Opened) (a b : State) (h : IsFoundAt g l f) (op : Opening g f.dims a os b) (s : Sight) (width : ℕ → ℕ) (p : Place) (r i : Term) (n : ℕ) (t : emitted.Term) → Sees g.cells a.views s width → Agrees s width b.temporaries → SoundParts g s l
      → KnowsIndex s i n → width_of (kind_of r) ≤ n → t ≡ emitted.Literal 1 0 → Lowers s width (length a.temporaries) (length b.temporaries) (core.Bit p r i) op.leaves.front (Made t)
  past-in l f os a b h op s width p r i n t sees agrees sound knows past e =
      let y = op.opens s width sees agrees (chosen-sound g s l h.named.dims f.dims h.dims sound) in
      let from = length a.temporaries in
      let P : emitted.Term → Type 0 = λ u. Lowers s width from (length b.temporaries) (core.Bit p r i) op.leaves.front (Made u) in
      subst P (sym e) (extended s width from from (length b.temporaries) (core.Bit p r i) End op.leaves.front (Made (emitted.Literal 1 0)) (bit-past s width from p r i n knows past) y.grows y.makes)

  pub some_index : (i m : ℕ) → ◌≡◌ {A = Option ℕ} (Some i) (Some m) → i ≡ m
  some_index i m e = cc

  pub reading-known : (l : CoreLeft) (k : Kind) (f : Found) (os : List Opened) (a b : State) (q : CorePick) (kind : Kind) (i : CoreExpr) (v : Number) (hi : ℕ) (t : emitted.Term) (cell : Held) → out-CorePick q ≡ tree.Bit kind i → value_in (facts_in g.known) i ≡ Some v → IsFoundAt g l f → Opening g f.dims a os b
      → slice_get g.cells f.first ≡ Some cell → hi + 1 ≡ width_of cell.kind → IsKnownBit g b.views (small v) hi os f.first t → Reading g l (Some q) k a t b
  reading-known l k f os a b q kind i v hi t cell is e h op get high read = record {
    leaves = op.leaves;
    lowers = λ s width sees agrees p r taken some few placed sound pick. (
        let P : CorePick-F CoreBase CoreExprNode CorePart CorePick CoreExpr CoreLeft → Type 0 = λ y. Lowers s width (length a.temporaries) (length b.temporaries) (taken_by p k r y) op.leaves.front (Made t) in
        let index = pick.1 kind i is in
        subst P (sym is) (by s width sees agrees p r taken some few placed sound index (small v) refl read (index-number s i v e index)));
  }
    where
      by : (s : Sight) (width : ℕ → ℕ) → Sees g.cells a.views s width → Agrees s width b.temporaries → (p : Place) (r : Term) → IsTaken s r (left_of l) → 1 ≤ width_of (kind_of r) → width_of (kind_of r) ≤ 128
          → IsPlaced s (width_of (kind_of r)) l (named_in g.known l) → SoundParts g s l → IsSound g s i → (o : Option ℕ) → small v ≡ o → IsKnownBit g b.views o hi os f.first t
          → ((m : ℕ) × (small v ≡ Some m) × (index_of v.kind v.word ≡ m)) ⊎ ((small v ≡ None) × (4294967296 ≤ index_of v.kind v.word))
          → Lowers s width (length a.temporaries) (length b.temporaries) (core.Bit p r (term_of i)) op.leaves.front (Made t)
      by s width sees agrees p r taken some few placed sound index (Some j) d (inl there) (inl told) =
          let bits = width_of (kind_of r) in
          let same : width_of cell.kind ≡ bits = wide-of s width a.views bits l f cell h sees placed get in
          let is_j : index_of v.kind v.word ≡ j = told.2 ∙ sym (some_index j told.0 (sym d ∙ told.1)) in
          let order : j ≤ j = omega arith in
          let top : j < bits = omega (arith, there.0, high, same) in
          taken-bit s width (length a.temporaries) (length b.temporaries) p r (term_of i) j (left_of l) op.leaves.front t sees.number (knows-index s i v j e index is_j) top taken
          (shown-of l f os a b j j t h op there.1 s width sees agrees bits few placed sound order top)
      by s width sees agrees p r taken some few placed sound index (Some j) d (inr past) (inl told) =
          let bits = width_of (kind_of r) in
          let same : width_of cell.kind ≡ bits = wide-of s width a.views bits l f cell h sees placed get in
          let is_j : index_of v.kind v.word ≡ j = told.2 ∙ sym (some_index j told.0 (sym d ∙ told.1)) in
          let top : bits ≤ j = omega (arith, past.0, high, same) in
          past-in l f os a b h op s width p r (term_of i) j t sees agrees sound (knows-index s i v j e index is_j) top past.1
      by s width sees agrees p r taken some few placed sound index (Some j) d read (inr told) = absurd (cc)
      by s width sees agrees p r taken some few placed sound index None d read (inl told) = absurd (cc)
      by s width sees agrees p r taken some few placed sound index None d read (inr told) =
          let top : width_of (kind_of r) ≤ index_of v.kind v.word = omega (arith, few, told.1) in
          past-in l f os a b h op s width p r (term_of i) (index_of v.kind v.word) t sees agrees sound (knows-index s i v (index_of v.kind v.word) e index refl) top read

  -- ---- a bit under an index in a variable

  pub open-bit : (e : Term) (i : CoreExpr) (a b c : State) (t r : emitted.Term) (front : Code) (s : Sight) (width : ℕ → ℕ) (p : Place) → (x : BitAt g t i b r c) → Sees g.cells b.views s width → Agrees s width c.temporaries → IsSound g s i → 1 ≤ width_of (kind_of e) → width_of (kind_of e) ≤ 128
      → IsIndexKind (kind_of (term_of i)) → (o : Outcome) → text_of o ≡ t → Lowers s width (length a.temporaries) (length b.temporaries) e front o
      → Lowers s width (length a.temporaries) (length c.temporaries) (core.Bit p e (term_of i)) (then_code front x.indexing.leaves.front) (Made r)
  open-bit e i a b c t r front s width p x sees agrees sound some few kind o is h =
      let n = length a.temporaries in
      let m = length b.temporaries in
      let k = length c.temporaries in
      let y = x.indexing.indexes s width sees agrees sound in
      let both = then_code front x.indexing.leaves.front in
      let P : emitted.Term → Type 0 = λ u. Lowers s width n k (core.Bit p e (term_of i)) both (Made u) in
      subst P (ap (λ u. bit_term u (variable_of x.index.variable)) is ∙ sym x.is)
      (bit-open s width n k p e (term_of i) both o x.index some few kind
      (extended s width n m k e front x.indexing.leaves.front o h y.grows y.makes)
      (index-behind s width n m k (term_of i) front x.indexing.leaves.front x.index sees.number h.grows h.makes y))

  pub reading-open : (l : CoreLeft) (k : Kind) (f : Found) (os : List Opened) (a b c : State) (q : CorePick) (kind : Kind) (i : CoreExpr) (hi lo : ℕ) (t r : emitted.Term) (cell : Held) → out-CorePick q ≡ tree.Bit kind i → IsFoundAt g l f → Opening g f.dims a os b
      → slice_get g.cells f.first ≡ Some cell → hi + 1 ≡ width_of cell.kind → lo ≡ 0 → ReadsElement g b.views os f.first hi lo t → BitAt g t i b r c → Reading g l (Some q) k a r c
  reading-open l k f os a b c q kind i hi lo t r cell is h op get high low read x = record {
    leaves = both-left a b c op.leaves x.indexing.leaves;
    lowers = λ s width sees agrees p e taken some few placed sound pick. (
        let from = length a.temporaries in
        let till = length c.temporaries in
        let both = then_code op.leaves.front x.indexing.leaves.front in
        let B : CorePick-F CoreBase CoreExprNode CorePart CorePick CoreExpr CoreLeft → Type 0 = λ y. IsBits g s (width_of (kind_of e)) k y in
        let rule : IsBits g s (width_of (kind_of e)) k (tree.Bit kind i) = subst B is pick.0 in
        let P : CorePick-F CoreBase CoreExprNode CorePart CorePick CoreExpr CoreLeft → Type 0 = λ y. Lowers s width from till (taken_by p k e y) both (Made r) in
        let first = agrees-before s width b c x.indexing.leaves agrees in
        subst P (sym is)
        (open-bit e i a b c t r op.leaves.front s width p x (sees-on g.cells s width a b op.leaves sees) agrees (pick.1 kind i is) some few rule.1 (Made t) refl
        (whole-of l f os a b hi lo t cell h op get high low read s width sees first e taken some few placed sound)));
  }

  -- ---- nothing is there

  pub reading-nowhere : (l : CoreLeft) (k : Kind) (q : Option CorePick) (a : State) (t : emitted.Term) → named_in g.known l ≡ None → t ≡ emitted.Literal (width_of k) 0 → Reading g l q k a t a
  reading-nowhere l k q a t e is = record {
    leaves = none-left a;
    lowers = λ s width sees agrees p r taken some few placed sound pick. (
        let P : emitted.Term → Type 0 = λ u. Lowers s width (length a.temporaries) (length a.temporaries) (taken_of p k r q) End (Made u) in
        let Q : Option Named → Type 0 = λ o. IsPlaced s (width_of (kind_of r)) l o in
        subst P (sym is) (by s width (length a.temporaries) p r taken (subst Q e placed) q pick));
  }
    where
      at : (s : Sight) (width : ℕ → ℕ) (n : ℕ) (p : Place) (r : Term) → IsTaken s r (left_of l) → IsPlaced s (width_of (kind_of r)) l None → (y : CorePick-F CoreBase CoreExprNode CorePart CorePick CoreExpr CoreLeft) → IsBits g s (width_of (kind_of r)) k y
          → Lowers s width n n (taken_by p k r y) End (Made (emitted.Literal (width_of k) 0))
      at s width n p r taken nothing (tree.Bit j i) rule =
          let P : Kind → Type 0 = λ m. Lowers s width n n (core.Bit p r (term_of i)) End (Made (emitted.Literal (width_of m) 0)) in
          subst P (sym rule.0) (nowhere-bit s width n p r (term_of i) (left_of l) taken nothing)
      at s width n p r taken nothing (tree.Range j hi lo) rule = nowhere-range s width n p k r hi lo (left_of l) taken nothing

      by : (s : Sight) (width : ℕ → ℕ) (n : ℕ) (p : Place) (r : Term) → IsTaken s r (left_of l) → IsPlaced s (width_of (kind_of r)) l None → (q : Option CorePick) → IsPick g s (width_of (kind_of r)) (kind_of r) k q
          → Lowers s width n n (taken_of p k r q) End (Made (emitted.Literal (width_of k) 0))
      by s width n p r taken nothing None pick =
          let P : Kind → Type 0 = λ j. Lowers s width n n r End (Made (emitted.Literal (width_of j) 0)) in
          subst P (sym pick) (nowhere s width n r (left_of l) taken nothing)
      by s width n p r taken nothing (Some q) pick = at s width n p r taken nothing (out-CorePick q) pick.0
