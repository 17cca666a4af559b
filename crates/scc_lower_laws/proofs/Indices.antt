-- Indices in variables.
use Rattle.std.specs.Prelude.{pos, negsuc}
use Rattle.std.proofs.Common.{◌≡◌, ◌⊎◌, inl, inr, ◌<◌, ◌≤◌, ◌^◌, ◌*◌, ◌+◌, ◌-◌, ◌%◌, ℕ, nat_eq, nat_lt, Bool, true, false, ◌||◌, cond, if◌then◌else◌, List, [], ◌∷◌, Option, Some, None, refl, sym, ap, ◌∙◌, subst, arith}
use Rattle.std.proofs.Math.Nat.{mod-eq_of_lt, pow-le-pow_right}
use Rattle.scc_bits_kinds.specs.declared.kind.Kind.{Kind}
use Rattle.scc_bits_kinds.specs.declared.kind.Kind.TheVariants as kind
use Rattle.scc_bits_kinds.specs.Numbers.{low, reading}
use Rattle.scc_bits_kinds.specs.Kinds.{width_of, is_signed, number_of, stored}
use Rattle.scc_bits_kinds.proofs.Low.{low_word}
use Rattle.scc_bits.proofs.Agreement.{stored_own}
use Rattle.scc_svtree.specs.Code.{Code, End, Assign}
use Rattle.scc_svtree.specs.Term as emitted
use Rattle.scc_svtree.specs.Mentions.{assigns, reads}
use Rattle.scc_svtree.specs.Running.{run}
use Rattle.scc_svtree.specs.Sizes.{sized, assigned}
use Rattle.scc_svtree.proofs.Agree.{eq_same, same_of_eq}
use Rattle.scc_semantics.specs.Scene.{index_of}
use Rattle.scc_core_spec.specs.Term.{Term, kind_of}
use Rattle.scc_blocks_spec.specs.Acting.{Acting, word_in}
use Rattle.scc_blocks_spec.specs.Shown.{Sight, Shows}
use Rattle.scc_blocks_spec.specs.Lowered.{Fits}
use Rattle.scc_lower_laws.specs.Sequence.{then_code, whole}
use Rattle.scc_lower_laws.proofs.Sequence.{then-run}
use Rattle.scc_lower_laws.proofs.Sequence.{gives-assigned, variable-gives, updated-same}
use Rattle.scc_lower_spec.specs.Gives.{Gives}
use Rattle.scc_lower_spec.proofs.Operators.{stored_fits}
use Rattle.scc_lower_laws.specs.Outcome.{Outcome, text_of, converted}
use Rattle.scc_lower_laws.specs.Lowers.{temporary, Makes, ReadsBelow, IsNumbered, Lowers}
use Rattle.scc_lower_laws.specs.Elements.{Dimension, cell_in, AreIndices, Slot, variable_of, index_kind, index_word, HoldsIndex, HoldIndices, Indexes, IsIndexKind, IndexAll}
use Rattle.scc_lower_laws.proofs.Frames.{makes-then, shows-stays, term-stays, text-gives}
use Rattle.scc_lower_laws.proofs.Reading.{outcome-reads}
use Rattle.scc_lower_laws.proofs.Words.{converted_has}

-- a variable is read whole
variable-below : (s : Sight) (n v : ℕ) → v < temporary s n → ReadsBelow s n (variable_of v)
variable-below s n v l u e = let P : ℕ → Type 0 = λ z. z < temporary s n in subst P (same_of_eq v u e) l

index-stays : (s : Sight) (width : ℕ → ℕ) (n m : ℕ) (c : Code) (x : ℕ → ℕ) (v : Slot) (i : ℕ) → Makes s n m c → v.variable < temporary s n → HoldsIndex width x v i → HoldsIndex width (run width c x) v i
index-stays s width n m c x v i p l h = subst (λ z. Gives false z v.width i) (sym (term-stays s width n m c x (variable_of v.variable) p (variable-below s n v.variable l))) h

module _ (s : Sight) (width : ℕ → ℕ) where
  pub index-extended : (n m k : ℕ) (e : Term) (c d : Code) (v : Slot) → Indexes s width n m e c v → m ≤ k → Makes s m k d → Indexes s width n k e (then_code c d) v
  index-extended n m k e c d v h l p = record {
    grows = omega (arith, h.grows);
    makes = makes-then s n m k c d h.grows l h.makes p;
    below = omega (arith, h.below);
    fits = h.fits;
    holds = λ a x w f g q. subst (λ y. HoldsIndex width y v (index_word (kind_of e) w)) (sym (then-run width c d x)) (index-stays s width m k d (run width c x) v (index_word (kind_of e) w) p h.below (h.holds a x w f g q));
  }

  pub index-behind : (n m k : ℕ) (e : Term) (c d : Code) (v : Slot) → IsNumbered s → n ≤ m → Makes s n m c → Indexes s width m k e d v → Indexes s width n k e (then_code c d) v
  index-behind n m k e c d v number l p h = record {
    grows = omega (arith, h.grows);
    makes = makes-then s n m k c d l h.grows p h.makes;
    below = h.below;
    fits = h.fits;
    holds = λ a x w f g q. subst (λ y. HoldsIndex width y v (index_word (kind_of e) w)) (sym (then-run width c d x)) (h.holds a (run width c x) w f (shows-stays s width n m c a x number p g) q);
  }

  -- the index in its own kind, without sign
  abbrev own_kind : Term → Kind
  own_kind e = index_kind (kind_of e)

  abbrev own_outcome : Term → Outcome → Outcome
  own_outcome e o = converted (kind_of e) (own_kind e) o

  index-gives : (n m : ℕ) (e : Term) (c : Code) (o : Outcome) → Lowers s width n m e c o → (a : Acting) (x : ℕ → ℕ) (w : ℕ) → Fits s a → Shows s a x → word_in s.cells a e ≡ Some w
      → Gives false (sized false width (run width c x) (text_of (own_outcome e o))) (width_of (own_kind e)) (index_word (kind_of e) w)
  index-gives n m e c o h a x w f g q =
      text-gives width (run width c x) (own_kind e) (own_outcome e o) (index_word (kind_of e) w) (stored_fits (own_kind e) (number_of (kind_of e) w))
      (converted_has false width (run width c x) (kind_of e) (own_kind e) o w (h.fits a x w f g q) (h.gives a x w f g q))

  -- an index that is one variable already
  pub index-variable : (n m : ℕ) (e : Term) (c : Code) (o : Outcome) (v : ℕ) → Lowers s width n m e c o → text_of (converted (kind_of e) (index_kind (kind_of e)) o) ≡ variable_of v
      → Indexes s width n m e c (record { variable = v; width = width_of (index_kind (kind_of e)) })
  index-variable n m e c o v h t = record {
    grows = h.grows;
    makes = h.makes;
    below = h.below v (sym (outcome-reads v (kind_of e) (own_kind e) o) ∙ ap (λ z. reads z v) t ∙ eq_same v);
    fits = h.fits;
    holds = λ a x w f g q. subst (λ z. Gives false (sized false width (run width c x) z) (width_of (own_kind e)) (index_word (kind_of e) w)) t (index-gives n m e c o h a x w f g q);
  }

  abbrev own_text : Term → Outcome → emitted.Term
  own_text e o = text_of (own_outcome e o)

  abbrev put : ℕ → Term → Outcome → Code
  put m e o = Assign (whole (temporary s m)) (own_text e o) End

  -- another one is put into a temporary
  pub index-temporary : (n m : ℕ) (e : Term) (c : Code) (o : Outcome) → width (temporary s m) ≡ width_of (index_kind (kind_of e)) → Lowers s width n m e c o
      → Indexes s width n (m + 1) e (then_code c (Assign (whole (temporary s m)) (text_of (converted (kind_of e) (index_kind (kind_of e)) o)) End)) (record { variable = temporary s m; width = width_of (index_kind (kind_of e)) })
  index-temporary n m e c o is_wide h = record {
    grows = omega (arith, h.grows);
    makes = makes-then s n m (m + 1) c (put m e o) h.grows (omega arith) h.makes made;
    below = omega arith;
    fits = h.fits;
    holds = λ a x w f g q. subst (λ y. HoldsIndex width y (record { variable = temporary s m; width = width_of (own_kind e) }) (index_word (kind_of e) w)) (sym (then-run width c (put m e o) x)) (held (run width c x) w (index-gives n m e c o h a x w f g q));
  }
    where
      made : (v : ℕ) → assigns (put m e o) v ≡ true → (temporary s m ≤ v) × (v < temporary s (m + 1))
      made v d = by (nat_eq (temporary s m) v) refl d
        where
          by : (b : Bool) → nat_eq (temporary s m) v ≡ b → (b || false) ≡ true → (temporary s m ≤ v) × (v < temporary s (m + 1))
          by true e d = let P : ℕ → Type 0 = λ z. (temporary s m ≤ z) × (z < temporary s (m + 1)) in subst P (same_of_eq (temporary s m) v e) (omega arith, omega arith)
          by false e d = absurd (cc)

      held : (y : ℕ → ℕ) (w : ℕ) → Gives false (sized false width y (own_text e o)) (width_of (own_kind e)) (index_word (kind_of e) w)
          → Gives false (sized false width (run width (put m e o) y) (variable_of (temporary s m))) (width_of (own_kind e)) (index_word (kind_of e) w)
      held y w g =
          let small : index_word (kind_of e) w < 2 ^ width_of (own_kind e) = stored_fits (own_kind e) (number_of (kind_of e) w) in
          let given : assigned (width (temporary s m)) (sized false width y (own_text e o)) ≡ index_word (kind_of e) w = ap (λ z. assigned z (sized false width y (own_text e o))) is_wide ∙ gives-assigned (sized false width y (own_text e o)) (width_of (own_kind e)) (index_word (kind_of e) w) small g in
          variable-gives width (run width (put m e o) y) (temporary s m) (width_of (own_kind e)) (index_word (kind_of e) w) is_wide (updated-same (temporary s m) (temporary s m) _ y (eq_same (temporary s m)) ∙ given) small

-- ---- an index, and how its variable holds it

abbrev pub Alike : ℕ → ℕ → Type 0
Alike i j = (i ≡ j) ⊎ ((2 ^ 32 ≤ i) × (2 ^ 32 ≤ j))

same-if : (b : Bool) (k : Kind) → is_signed k ≡ b → IsIndexKind k → (w : ℕ) → w < 2 ^ width_of k → Alike (low 128 (reading b (width_of k) w)) (stored (if b then kind.Native 64 false else k) (reading b (width_of k) w))
same-if false k e h w l =
    let few : 2 ^ width_of k ≤ 2 ^ 128 = pow-le-pow_right (omega arith) h.few in
    let first : low 128 (pos w) ≡ w = low_word 128 w (omega (arith, few, l)) in
    let second : stored k (pos w) ≡ w = subst (λ b. stored k (reading b (width_of k) w) ≡ w) e (stored_own k w l) in
    inl (first ∙ sym second)
same-if true k e h w l = by (nat_lt (2 * w) (2 ^ width_of k)) refl
  where
    few : 2 ^ width_of k ≤ 2 ^ 64
    few = pow-le-pow_right (omega arith) (h.fewer e)

    by : (b : Bool) → nat_lt (2 * w) (2 ^ width_of k) ≡ b → Alike (low 128 (cond b (pos w) (negsuc (2 ^ width_of k - 1 - w)))) (low 64 (cond b (pos w) (negsuc (2 ^ width_of k - 1 - w))))
    by true t = inl (low_word 128 w (omega (arith, few, l)) ∙ sym (low_word 64 w (omega (arith, few, l))))
    by false t =
        let more : 2 ^ width_of k ≤ 2 * w = grind arith in
        let small : 2 ^ width_of k - 1 - w < 2 ^ 63 = omega (arith, few, more, l) in
        let wide : (2 ^ width_of k - 1 - w) % 2 ^ 128 ≡ 2 ^ width_of k - 1 - w = mod-eq_of_lt (omega (arith, small)) in
        let long : (2 ^ width_of k - 1 - w) % 2 ^ 64 ≡ 2 ^ width_of k - 1 - w = mod-eq_of_lt (omega (arith, small)) in
        inr (omega (arith, wide, small), omega (arith, long, small))

pub alike : (k : Kind) → IsIndexKind k → (w : ℕ) → w < 2 ^ width_of k → Alike (index_of k w) (index_word k w)
alike k h w l = same-if (is_signed k) k refl h w l

-- what the ends of an array tell
tells : (i j size : ℕ) → size ≤ 2 ^ 32 → Alike i j → {A : Type 0} (f : ℕ → Option A) → (if nat_lt i size then f i else None) ≡ (if nat_lt j size then f j else None)
tells i j size l (inl e) f = λ d. if nat_lt (e d) size then f (e d) else None
tells i j size l (inr h) f =
    let first : nat_lt i size ≡ false = grind (arith, h.0, l) in
    let second : nat_lt j size ≡ false = grind (arith, h.1, l) in
    ap (λ b. if b then f i else None) first ∙ sym (ap (λ b. if b then f j else None) second)

-- The indices of an array as their variables hold them: they name the same element.
pub record Held (s : Sight) (width y : ℕ → ℕ) (ds : List Dimension) (vs : List Slot) (is : List ℕ) : Type 0 where
  pub words : List ℕ
  pub hold : HoldIndices width y vs words
  pub same : (first : ℕ) → cell_in first ds is ≡ cell_in first ds words

pub held-all : (s : Sight) (width : ℕ → ℕ) (n m : ℕ) (ds : List Dimension) (c : Code) (vs : List Slot) (a : Acting) (x : ℕ → ℕ) (is : List ℕ) → IndexAll s width n m ds c vs → Fits s a → Shows s a x → AreIndices s.cells a ds is → Held s width (run width c x) ds vs is
held-all s width n m [] c [] a x [] h f g r = record { words = []; hold = tt; same = λ first. refl }
held-all s width n m (d ∷ ds) c (v ∷ vs) a x (i ∷ is) h f g r =
    let more = held-all s width n m ds c vs a x is h.3 f g r.1 in
    let w = r.0.0 in
    let here = h.0.holds a x w f g r.0.1 in
    let like = alike (kind_of d.index) h.2 w (h.0.fits a x w f g r.0.1) in
    record {
      words = index_word (kind_of d.index) w ∷ more.words;
      hold = (here, more.hold);
      same = λ first.
          ap (λ j. if nat_lt j d.size then cell_in (first + j * d.stride) ds is else None) (sym r.0.2)
          ∙ tells (index_of (kind_of d.index) w) (index_word (kind_of d.index) w) d.size h.1 like (λ j. cell_in (first + j * d.stride) ds is)
          ∙ ap (λ o. if nat_lt (index_word (kind_of d.index) w) d.size then o else None) (more.same (first + index_word (kind_of d.index) w * d.stride));
    }
held-all s width n m [] c [] a x (i ∷ is) h f g r = absurd r
held-all s width n m [] c (v ∷ vs) a x is h f g r = absurd h
held-all s width n m (d ∷ ds) c [] a x is h f g r = absurd h
held-all s width n m (d ∷ ds) c (v ∷ vs) a x [] h f g r = absurd r
