-- Reads of locations, whole or of some bits.
use Rattle.std.proofs.Common.{◌≡◌, inl, inr, ◌<◌, ◌≤◌, ◌^◌, ◌+◌, ◌-◌, ◌/◌, ◌%◌, ℕ, nat_eq, nat_lt, Bool, true, false, if◌then◌else◌, Some, refl, sym, ap, ◌∙◌, subst, arith}
use Rattle.std.proofs.Math.Nat.{mod-lt, mod-eq_of_lt, div-eq_of_lt, pow-le-pow_right}
use Rattle.std.proofs.lemmas.Nat.{pow_pos}
use Rattle.scc_base.specs.declared.refusal.Place.{Place}
use Rattle.scc_bits_kinds.specs.declared.kind.Kind.{Kind}
use Rattle.scc_bits_kinds.specs.Bits.{part}
use Rattle.scc_bits_kinds.specs.Kinds.{width_of}
use Rattle.scc_svtree.specs.Code.{Code, End}
use Rattle.scc_svtree.specs.Term as emitted
use Rattle.scc_svtree.specs.Mentions.{reads}
use Rattle.scc_svtree.specs.Running.{run}
use Rattle.scc_svtree.specs.Sizes.{sized}
use Rattle.scc_svtree.proofs.Agree.{same_of_eq}
use Rattle.scc_semantics.specs.Scene.{index_of, bit_at}
use Rattle.scc_core_spec.specs.Term.{Term, Left, Bit, Range, kind_of}
use Rattle.scc_blocks_spec.specs.Acting.{Acting, word_in, steps_in, cell_named, word_or_zero}
use Rattle.scc_blocks_spec.specs.Shown.{Sight, Shows}
use Rattle.scc_blocks_spec.specs.Lowered.{Fits}
use Rattle.scc_lower_spec.specs.Gives.{Gives}
use Rattle.scc_lower_spec.specs.Selected.{bit_term}
use Rattle.scc_lower_spec.proofs.Gives.{gives_fixed}
use Rattle.scc_lower_spec.proofs.Selected.{bit_gives}
use Rattle.scc_lower_laws.specs.Outcome.{Outcome, Known, Made, HasWord, text_of}
use Rattle.scc_lower_laws.specs.Outcome as outcome
use Rattle.scc_lower_laws.specs.Lowers.{temporary, IsNumbered, Lowers, Knows}
use Rattle.scc_lower_laws.specs.Elements.{cell_in, Slot, variable_of, index_word, IsIndexKind, IsNowhere, Indexes, location_word, IsTaken, Shown, KnowsIndex}
use Rattle.scc_lower_laws.proofs.Options.{some_same, map_is, two_is}
use Rattle.scc_lower_laws.proofs.Frames.{shows-stays, text-gives}
use Rattle.scc_lower_laws.proofs.Indices.{held-all, Alike, alike}
use Rattle.scc_lower_laws.proofs.Rules.{or_by}

whole-part : (w y : ℕ) → 1 ≤ w → y < 2 ^ w → part (w - 1) 0 y ≡ y
whole-part w y o l =
    let n : w - 1 - 0 + 1 ≡ w = omega (arith, o) in
    let d : y / 2 ^ 0 ≡ y = omega arith in
    (λ i. d i % 2 ^ n i) ∙ mod-eq_of_lt l

-- a bit by a shift
pub bit-same : (w y i : ℕ) → y < 2 ^ w → bit_at w y i ≡ y / 2 ^ i % 2
bit-same w y i l = by (nat_lt i w) refl
  where
    by : (b : Bool) → nat_lt i w ≡ b → (if b then part i i y else 0) ≡ y / 2 ^ i % 2
    by true e = let n : i - i + 1 ≡ 1 = omega arith in ap (λ n. y / 2 ^ i % 2 ^ n) n
    by false e =
        let o : w ≤ i = grind arith in
        let m : 2 ^ w ≤ 2 ^ i = pow-le-pow_right (omega arith) o in
        let z : y / 2 ^ i ≡ 0 = div-eq_of_lt (omega (arith, m, l)) in
        sym (ap (λ n. n % 2) z)

bit-small : (w y i : ℕ) → bit_at w y i < 2 ^ 1
bit-small w y i = by (nat_lt i w)
  where
    by : (b : Bool) → (if b then part i i y else 0) < 2 ^ 1
    by true = let n : i - i + 1 ≡ 1 = omega arith in let P : ℕ → Type 0 = λ n. y / 2 ^ i % 2 ^ n < 2 ^ n in let h : y / 2 ^ i % 2 ^ 1 < 2 ^ 1 = mod-lt (y / 2 ^ i) (pow_pos 1) in subst (λ n. y / 2 ^ i % 2 ^ n < 2 ^ 1) (sym n) h
    by false = omega arith

module _ (s : Sight) (width : ℕ → ℕ) where
  -- ---- what is known

  pub known : (n : ℕ) (e : Term) (w : ℕ) → Knows s e w → Lowers s width n n e End (Known (outcome.number (kind_of e) w))
  known n e w h = record {
    grows = omega arith;
    makes = λ v d. absurd (cc);
    below = λ v d. absurd (cc);
    fits = λ a x u f g q. (let P : ℕ → Type 0 = λ z. z < 2 ^ width_of (kind_of e) in subst P (sym (h.is a x u f g q)) h.fits);
    gives = λ a x u f g q. (refl, sym (h.is a x u f g q));
  }

  -- a literal of 0 where the value is 0
  zero-text : (n : ℕ) (e : Term) (k : ℕ) → k ≡ width_of (kind_of e) → ((a : Acting) (x : ℕ → ℕ) (w : ℕ) → Fits s a → Shows s a x → word_in s.cells a e ≡ Some w → w ≡ 0) → Lowers s width n n e End (Made (emitted.Literal k 0))
  zero-text n e k d h = record {
    grows = omega arith;
    makes = λ v d. absurd (cc);
    below = λ v d. absurd (cc);
    fits = λ a x u f g q. (let P : ℕ → Type 0 = λ z. z < 2 ^ width_of (kind_of e) in subst P (sym (h a x u f g q)) (pow_pos (width_of (kind_of e))));
    gives = λ a x u f g q. (λ i. d i, refl, (λ i. (sized false width x (emitted.Literal (d i) 0)).word (width_of (kind_of e)) false) ∙ (gives_fixed false (width_of (kind_of e)) 0 (pow_pos (width_of (kind_of e)))).2 ∙ sym (h a x u f g q));
  }

  -- a location that names no cell reads as 0
  nowhere-word : (l : Left) (a : Acting) (x : ℕ → ℕ) (w : ℕ) → IsNowhere s l → Fits s a → Shows s a x → location_word s.cells a l ≡ Some w → w ≡ 0
  nowhere-word l a x w h f g q =
      let m = map_is (steps_in s.cells a l) (λ steps. word_or_zero a (cell_named s.cells (Some steps))) w q in
      sym m.2 ∙ ap (word_or_zero a) (h a x f g m.0 m.1)

  pub nowhere : (n : ℕ) (e : Term) (l : Left) → IsTaken s e l → IsNowhere s l → Lowers s width n n e End (Made (emitted.Literal (width_of (kind_of e)) 0))
  nowhere n e l t h = zero-text n e (width_of (kind_of e)) refl (λ a x w f g q. nowhere-word l a x w h f g (sym (t a) ∙ q))

  zero-part : (h l : ℕ) → part h l 0 ≡ 0
  zero-part h l = let d : 0 / 2 ^ l ≡ 0 = div-eq_of_lt (pow_pos l) in ap (λ z. z % 2 ^ (h - l + 1)) d ∙ mod-eq_of_lt (pow_pos (h - l + 1))

  pub nowhere-range : (n : ℕ) (p : Place) (k : Kind) (e : Term) (h l : ℕ) (place : Left) → IsTaken s e place → IsNowhere s place → Lowers s width n n (Range p k e h l) End (Made (emitted.Literal (width_of k) 0))
  nowhere-range n p k e h l place t u = zero-text n (Range p k e h l) (width_of k) refl (λ a x w f g q. (
      let m = map_is (word_in s.cells a e) (part h l) w q in
      sym m.2 ∙ ap (part h l) (nowhere-word place a x m.0 u f g (sym (t a) ∙ m.1)) ∙ zero-part h l))

  pub nowhere-bit : (n : ℕ) (p : Place) (e i : Term) (place : Left) → IsTaken s e place → IsNowhere s place → Lowers s width n n (Bit p e i) End (Made (emitted.Literal 1 0))
  nowhere-bit n p e i place t u = zero-text n (Bit p e i) 1 refl (λ a x w f g q. (
      let m = two_is (word_in s.cells a e) (word_in s.cells a i) (λ y j. Some (bit_at (width_of (kind_of e)) y (index_of (kind_of i) j))) w q in
      let z = nowhere-word place a x m.0 u f g (sym (t a) ∙ m.2) in
      sym (some_same m.4) ∙ (λ d. bit_at (width_of (kind_of e)) (z d) (index_of (kind_of i) m.1)) ∙ bit-same (width_of (kind_of e)) 0 (index_of (kind_of i) m.1) (pow_pos (width_of (kind_of e))) ∙ ap (λ z. z % 2) (div-eq_of_lt (pow_pos (index_of (kind_of i) m.1)))))

  -- a bit past the end is 0
  pub bit-past : (n : ℕ) (p : Place) (e i : Term) (b : ℕ) → KnowsIndex s i b → width_of (kind_of e) ≤ b → Lowers s width n n (Bit p e i) End (Made (emitted.Literal 1 0))
  bit-past n p e i b h o = zero-text n (Bit p e i) 1 refl (λ a x w f g q. (
      let m = two_is (word_in s.cells a e) (word_in s.cells a i) (λ y j. Some (bit_at (width_of (kind_of e)) y (index_of (kind_of i) j))) w q in
      let is = h a x m.1 f g m.3 in
      let past : nat_lt (index_of (kind_of i) m.1) (width_of (kind_of e)) ≡ false = grind (arith, is, o) in
      sym (some_same m.4) ∙ ap (λ c. if c then part (index_of (kind_of i) m.1) (index_of (kind_of i) m.1) m.0 else 0) past))

  -- ---- what stands at a location

  shown-word : (n m bits : ℕ) (place : Left) (c : Code) (h l : ℕ) (t : emitted.Term) → IsNumbered s → Shown s width n m bits place c h l t → (a : Acting) (x : ℕ → ℕ) (w : ℕ) → Fits s a → Shows s a x → location_word s.cells a place ≡ Some w
      → (w < 2 ^ bits) × Gives false (sized false width (run width c x) t) (h - l + 1) (part h l w)
  shown-word n m bits place c h l t number r a x w f g q =
      let u = map_is (steps_in s.cells a place) (λ steps. word_or_zero a (cell_named s.cells (Some steps))) w q in
      let z = r.found a x f g (cell_named s.cells (Some u.0)) u.0 u.1 refl in
      let k = held-all s width n m r.dimensions c r.slots a x z.0 r.indices f g z.1 in
      let e = r.element.gives a (run width c x) k.words f (shows-stays s width n m c a x number r.makes g) k.hold in
      let same : word_or_zero a (cell_in r.first r.dimensions k.words) ≡ w = ap (word_or_zero a) (sym (k.same r.first)) ∙ ap (word_or_zero a) (sym z.2) ∙ u.2 in
      subst (λ y. (y < 2 ^ bits) × Gives false (sized false width (run width c x) t) (h - l + 1) (part h l y)) same e

  pub taken-whole : (n m : ℕ) (e : Term) (place : Left) (c : Code) (t : emitted.Term) → IsNumbered s → 1 ≤ width_of (kind_of e) → IsTaken s e place → Shown s width n m (width_of (kind_of e)) place c (width_of (kind_of e) - 1) 0 t → Lowers s width n m e c (Made t)
  taken-whole n m e place c t number o k r = record {
    grows = r.grows;
    makes = r.makes;
    below = r.element.below;
    fits = λ a x w f g q. (shown-word n m (width_of (kind_of e)) place c (width_of (kind_of e) - 1) 0 t number r a x w f g (sym (k a) ∙ q)).0;
    gives = λ a x w f g q. (
        let u = shown-word n m (width_of (kind_of e)) place c (width_of (kind_of e) - 1) 0 t number r a x w f g (sym (k a) ∙ q) in
        let b : width_of (kind_of e) - 1 - 0 + 1 ≡ width_of (kind_of e) = omega (arith, o) in
        let v : part (width_of (kind_of e) - 1) 0 w ≡ w = whole-part (width_of (kind_of e)) w o u.0 in
        let P : ℕ → ℕ → Type 0 = λ n y. Gives false (sized false width (run width c x) t) n y in
        subst (λ n. P n w) b (subst (λ y. P (width_of (kind_of e) - 1 - 0 + 1) y) v u.1));
  }

  pub taken-range : (n m : ℕ) (p : Place) (k : Kind) (e : Term) (h l : ℕ) (place : Left) (c : Code) (t : emitted.Term) → IsNumbered s → width_of k ≡ h - l + 1 → IsTaken s e place → Shown s width n m (width_of (kind_of e)) place c h l t → Lowers s width n m (Range p k e h l) c (Made t)
  taken-range n m p k e h l place c t number d i r = record {
    grows = r.grows;
    makes = r.makes;
    below = r.element.below;
    fits = λ a x w f g q. (
        let m = map_is (word_in s.cells a e) (part h l) w q in
        let P : ℕ → Type 0 = λ z. z < 2 ^ width_of k in
        let Q : ℕ → Type 0 = λ n. part h l m.0 < 2 ^ n in
        subst P m.2 (subst Q (sym d) (mod-lt (m.0 / 2 ^ l) (pow_pos (h - l + 1)))));
    gives = λ a x w f g q. (
        let u = map_is (word_in s.cells a e) (part h l) w q in
        let y = shown-word n m (width_of (kind_of e)) place c h l t number r a x u.0 f g (sym (i a) ∙ u.1) in
        subst (λ n. Gives false (sized false width (run width c x) t) n w) (sym d) (subst (λ z. Gives false (sized false width (run width c x) t) (h - l + 1) z) u.2 y.1));
  }

  pub taken-bit : (n m : ℕ) (p : Place) (e i : Term) (b : ℕ) (place : Left) (c : Code) (t : emitted.Term) → IsNumbered s → KnowsIndex s i b → b < width_of (kind_of e) → IsTaken s e place → Shown s width n m (width_of (kind_of e)) place c b b t → Lowers s width n m (Bit p e i) c (Made t)
  taken-bit n m p e i b place c t number j o k r = record {
    grows = r.grows;
    makes = r.makes;
    below = r.element.below;
    fits = λ a x w f g q. (
        let u = two_is (word_in s.cells a e) (word_in s.cells a i) (λ y j. Some (bit_at (width_of (kind_of e)) y (index_of (kind_of i) j))) w q in
        let P : ℕ → Type 0 = λ z. z < 2 ^ 1 in
        subst P (some_same u.4) (bit-small (width_of (kind_of e)) u.0 (index_of (kind_of i) u.1)));
    gives = λ a x w f g q. (
        let u = two_is (word_in s.cells a e) (word_in s.cells a i) (λ y j. Some (bit_at (width_of (kind_of e)) y (index_of (kind_of i) j))) w q in
        let y = shown-word n m (width_of (kind_of e)) place c b b t number r a x u.0 f g (sym (k a) ∙ u.2) in
        let one : b - b + 1 ≡ 1 = omega arith in
        let inside : nat_lt b (width_of (kind_of e)) ≡ true = grind (arith, o) in
        let is : w ≡ part b b u.0 = sym (some_same u.4) ∙ ap (bit_at (width_of (kind_of e)) u.0) (j a x u.1 f g u.3) ∙ ap (λ c. if c then part b b u.0 else 0) inside in
        subst (λ n. Gives false (sized false width (run width c x) t) n w) one (subst (λ z. Gives false (sized false width (run width c x) t) (b - b + 1) z) (sym is) y.1));
  }

  -- a bit at an index that isn't known: the lowest one of a shift
  pub bit-open : (n m : ℕ) (p : Place) (e i : Term) (c : Code) (o : Outcome) (v : Slot) → 1 ≤ width_of (kind_of e) → width_of (kind_of e) ≤ 128 → IsIndexKind (kind_of i) → Lowers s width n m e c o → Indexes s width n m i c v
      → Lowers s width n m (Bit p e i) c (Made (bit_term (text_of o) (variable_of v.variable)))
  bit-open n m p e i c o v some few kind h j = record {
    grows = h.grows;
    makes = h.makes;
    below = λ z d. or_by (z < temporary s m) (reads (text_of o) z) (nat_eq v.variable z) d (h.below z) (λ d. (let P : ℕ → Type 0 = λ z. z < temporary s m in subst P (same_of_eq v.variable z d) j.below));
    fits = λ a x w f g q. (
        let u = two_is (word_in s.cells a e) (word_in s.cells a i) (λ y j. Some (bit_at (width_of (kind_of e)) y (index_of (kind_of i) j))) w q in
        let P : ℕ → Type 0 = λ z. z < 2 ^ 1 in
        subst P (some_same u.4) (bit-small (width_of (kind_of e)) u.0 (index_of (kind_of i) u.1)));
    gives = λ a x w f g q. (
        let u = two_is (word_in s.cells a e) (word_in s.cells a i) (λ y j. Some (bit_at (width_of (kind_of e)) y (index_of (kind_of i) j))) w q in
        let small = h.fits a x u.0 f g u.2 in
        let b = bit_gives false width (run width c x) (text_of o) (variable_of v.variable) (width_of (kind_of e)) v.width u.0 (index_word (kind_of i) u.1) some (text-gives width (run width c x) (kind_of e) o u.0 small (h.gives a x u.0 f g u.2)) (j.holds a x u.1 f g u.3) in
        let is : u.0 / 2 ^ index_word (kind_of i) u.1 % 2 ≡ w = shifted (kind_of i) (width_of (kind_of e)) u.0 u.1 few small (alike (kind_of i) kind u.1 (j.fits a x u.1 f g u.3)) ∙ some_same u.4 in
        (b.0, b.1, b.2 ∙ is));
  }
    where
      shifted : (k : Kind) (w y i : ℕ) → w ≤ 128 → y < 2 ^ w → Alike (index_of k i) (index_word k i) → y / 2 ^ index_word k i % 2 ≡ bit_at w y (index_of k i)
      shifted k w y i few l (inl e) = ap (λ j. y / 2 ^ j % 2) (sym e) ∙ sym (bit-same w y (index_of k i) l)
      shifted k w y i few l (inr e) =
          let m : 2 ^ w ≤ 2 ^ index_word k i = pow-le-pow_right (omega arith) (omega (arith, e.1, few)) in
          let z : y / 2 ^ index_word k i ≡ 0 = div-eq_of_lt (omega (arith, m, l)) in
          let past : nat_lt (index_of k i) w ≡ false = grind (arith, e.0, few) in
          ap (λ n. n % 2) z ∙ sym (ap (λ c. if c then part (index_of k i) (index_of k i) y else 0) past)
