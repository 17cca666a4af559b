-- Rules by which expressions are lowered: literals, conversions, operators and choices; and what stands before or behind.
use Rattle.std.proofs.Common.{◌≡◌, ◌<◌, ◌≤◌, ◌^◌, ℕ, zero, suc, nat_eq, Bool, true, false, cond, ◌||◌, Option, Some, refl, sym, ap, ◌∙◌, subst, arith}
use Rattle.scc_base.specs.declared.refusal.Place.{Place}
use Rattle.scc_bits_kinds.specs.declared.kind.Kind.{Kind}
use Rattle.scc_bits_kinds.specs.declared.op.Op.{Op}
use Rattle.scc_bits_kinds.specs.Kinds.{IsValid, width_of, number_of, stored}
use Rattle.scc_bits.specs.Values.{applied, is_too_wide}
use Rattle.scc_bits.specs.Values as values
use Rattle.scc_svtree.specs.Code.{Code, End}
use Rattle.scc_svtree.specs.Mentions.{reads}
use Rattle.scc_svtree.specs.Running.{run}
use Rattle.scc_semantics.specs.Scene.{with_two}
use Rattle.scc_semantics.specs.Scene as scene
use Rattle.scc_core_spec.specs.Term.{Term, Literal, Convert, Unary, Binary, Choose, kind_of}
use Rattle.scc_blocks_spec.specs.Acting.{Acting, word_in}
use Rattle.scc_blocks_spec.specs.Shown.{Sight}
use Rattle.scc_lower_laws.specs.Sequence.{then_code}
use Rattle.scc_lower_laws.proofs.Sequence.{then-run}
use Rattle.scc_lower_spec.proofs.Operators.{stored_fits}
use Rattle.scc_lower_laws.specs.Outcome.{Outcome, Known, Made, HasWord, text_of, converted, operated, operated_alone, chosen}
use Rattle.scc_lower_laws.specs.Outcome as outcome
use Rattle.scc_lower_laws.specs.Lowers.{temporary, Makes, IsNumbered, Lowers}
use Rattle.scc_lower_laws.proofs.Frames.{makes-then, shows-stays, word-stays, below-more}
use Rattle.scc_lower_laws.proofs.Options.{some_same, map_is, then_is, two_is}
use Rattle.scc_lower_laws.proofs.Reading.{outcome-reads, operated-reads, alone-reads, chosen-reads}
use Rattle.scc_lower_laws.proofs.Words.{applied_fits, converted_has, operated_has, alone_has, chosen_has}

-- one of two, or of three
pub or_by : (P : Type 0) (a b : Bool) → (a || b) ≡ true → (a ≡ true → P) → (b ≡ true → P) → P
or_by P true b e f g = f refl
or_by P false b e f g = g e

module _ (s : Sight) (width : ℕ → ℕ) where
  -- ---- what stands behind, and what stands before

  pub extended : (n m k : ℕ) (e : Term) (c d : Code) (o : Outcome) → Lowers s width n m e c o → m ≤ k → Makes s m k d → Lowers s width n k e (then_code c d) o
  extended n m k e c d o h l p = record {
    grows = omega (arith, h.grows);
    makes = makes-then s n m k c d h.grows l h.makes p;
    below = below-more s m k (text_of o) l h.below;
    fits = h.fits;
    gives = λ a x w f g q.
        let here = word-stays s width m k d (run width c x) (kind_of e) o w p h.below (h.gives a x w f g q) in
        subst (λ y. HasWord false width y (kind_of e) o w) (sym (then-run width c d x)) here;
  }

  pub behind : (n m k : ℕ) (e : Term) (c d : Code) (o : Outcome) → IsNumbered s → n ≤ m → Makes s n m c → Lowers s width m k e d o → Lowers s width n k e (then_code c d) o
  behind n m k e c d o number l p h = record {
    grows = omega (arith, h.grows);
    makes = makes-then s n m k c d l h.grows p h.makes;
    below = h.below;
    fits = λ a x w f g q. h.fits a x w f g q;
    gives = λ a x w f g q.
        let here = h.gives a (run width c x) w f (shows-stays s width n m c a x number p g) q in
        subst (λ y. HasWord false width y (kind_of e) o w) (sym (then-run width c d x)) here;
  }

  -- ---- literals and conversions

  pub literal : (n : ℕ) (p : Place) (k : Kind) (w : ℕ) → w < 2 ^ width_of k → Lowers s width n n (Literal p k w) End (Known (outcome.number k w))
  literal n p k w l = record {
    grows = omega arith;
    makes = λ v e. absurd (cc);
    below = λ v e. absurd (cc);
    fits = λ a x u f g d. subst (λ z. z < 2 ^ width_of k) (some_same d) l;
    gives = λ a x u f g d. (refl, some_same d);
  }

  pub convert : (n m : ℕ) (p : Place) (k : Kind) (e : Term) (c : Code) (o : Outcome) → Lowers s width n m e c o → Lowers s width n m (Convert p k e) c (converted (kind_of e) k o)
  convert n m p k e c o h = record {
    grows = h.grows;
    makes = h.makes;
    below = λ v d. h.below v (sym (outcome-reads v (kind_of e) k o) ∙ d);
    fits = λ a x w f g d. (let r = map_is (word_in s.cells a e) (λ y. stored k (number_of (kind_of e) y)) w d in subst (λ z. z < 2 ^ width_of k) r.2 (stored_fits k (number_of (kind_of e) r.0)));
    gives = λ a x w f g d.
        (let r = map_is (word_in s.cells a e) (λ y. stored k (number_of (kind_of e) y)) w d in
        subst (λ z. HasWord false width (run width c x) k (converted (kind_of e) k o) z) r.2 (converted_has false width (run width c x) (kind_of e) k o r.0 (h.fits a x r.0 f g r.1) (h.gives a x r.0 f g r.1)));
  }

  -- ---- operators and choices, whose operands stand behind one front

  pub alone : (n m : ℕ) (p : Place) (k : Kind) (o : Op) (e : Term) (c : Code) (r out : Outcome) → IsValid (kind_of e) → is_too_wide o (kind_of e) (kind_of e) ≡ false → values.kind_of o (kind_of e) (kind_of e) ≡ Some k → operated_alone o (kind_of e) r ≡ Some out
      → Lowers s width n m e c r → Lowers s width n m (Unary p k o e) c out
  alone n m p k o e c r out valid wide kind made h = record {
    grows = h.grows;
    makes = h.makes;
    below = λ v d. h.below v (alone-reads v o (kind_of e) r out made d);
    fits = λ a x w f g d. (let u = then_is (word_in s.cells a e) (λ y. applied o (kind_of e) y (kind_of e) y) w d in applied_fits o (kind_of e) (kind_of e) k u.0 u.0 w kind u.2);
    gives = λ a x w f g d.
        (let u = then_is (word_in s.cells a e) (λ y. applied o (kind_of e) y (kind_of e) y) w d in
        alone_has false width (run width c x) o (kind_of e) k u.0 w r out valid (h.fits a x u.0 f g u.1) wide kind (h.gives a x u.0 f g u.1) u.2 made);
  }

  pub two : (n m : ℕ) (p : Place) (k : Kind) (o : Op) (e e' : Term) (c : Code) (r r' out : Outcome) → IsValid (kind_of e) → IsValid (kind_of e') → is_too_wide o (kind_of e) (kind_of e') ≡ false → values.kind_of o (kind_of e) (kind_of e') ≡ Some k
      → operated o (kind_of e) r (kind_of e') r' ≡ Some out → Lowers s width n m e c r → Lowers s width n m e' c r' → Lowers s width n m (Binary p k o e e') c out
  two n m p k o e e' c r r' out valid valid' wide kind made h h' = record {
    grows = h.grows;
    makes = h.makes;
    below = λ v d. or_by (v < temporary s m) (reads (text_of r) v) (reads (text_of r') v) (operated-reads v o (kind_of e) (kind_of e') r r' out made d) (h.below v) (h'.below v);
    fits = λ a x w f g d. (let u = two_is (word_in s.cells a e) (word_in s.cells a e') (λ y z. applied o (kind_of e) y (kind_of e') z) w d in applied_fits o (kind_of e) (kind_of e') k u.0 u.1 w kind u.4);
    gives = λ a x w f g d.
        (let u = two_is (word_in s.cells a e) (word_in s.cells a e') (λ y z. applied o (kind_of e) y (kind_of e') z) w d in
        operated_has false width (run width c x) o (kind_of e) (kind_of e') k u.0 u.1 w r r' out valid valid' (h.fits a x u.0 f g u.2) (h'.fits a x u.1 f g u.3) wide kind (h.gives a x u.0 f g u.2) (h'.gives a x u.1 f g u.3) u.4 made);
  }

  same-choice : (c y z : ℕ) → cond (nat_eq c 0) z y ≡ scene.chosen c y z
  same-choice zero y z = refl
  same-choice (suc c) y z = let e : nat_eq (suc c) 0 ≡ false = grind arith in ap (λ b. cond b z y) e

  -- the words of a choice's operands
  record ChoiceWords (k : Kind) (t e e' : Term) (a : Acting) (w : ℕ) : Type 0 where
    test : ℕ
    yes : ℕ
    no : ℕ
    of_test : word_in s.cells a t ≡ Some test
    of_yes : word_in s.cells a e ≡ Some yes
    of_no : word_in s.cells a e' ≡ Some no
    is : scene.chosen test (stored k (number_of (kind_of e) yes)) (stored k (number_of (kind_of e') no)) ≡ w

  choice-words : (p : Place) (k : Kind) (t e e' : Term) (a : Acting) (w : ℕ) → word_in s.cells a (Choose p k t e e') ≡ Some w → ChoiceWords k t e e' a w
  choice-words p k t e e' a w d =
      let f : ℕ → ℕ → ℕ → Option ℕ = λ n y z. Some (scene.chosen n (stored k (number_of (kind_of e) y)) (stored k (number_of (kind_of e') z))) in
      let u = then_is (word_in s.cells a t) (λ n. with_two (word_in s.cells a e) (word_in s.cells a e') (f n)) w d in
      let v = two_is (word_in s.cells a e) (word_in s.cells a e') (f u.0) w u.2 in
      record { test = u.0; yes = v.0; no = v.1; of_test = u.1; of_yes = v.2; of_no = v.3; is = some_same v.4 }

  choice-fits : (k : Kind) (c : ℕ) (y z : ℕ) → y < 2 ^ width_of k → z < 2 ^ width_of k → scene.chosen c y z < 2 ^ width_of k
  choice-fits k zero y z l h = h
  choice-fits k (suc c) y z l h = l

  pub choice : (n m : ℕ) (p : Place) (k : Kind) (t e e' : Term) (c : Code) (q r r' : Outcome) → Lowers s width n m t c q → Lowers s width n m e c r → Lowers s width n m e' c r'
      → Lowers s width n m (Choose p k t e e') c (chosen (kind_of t) q (kind_of e) r (kind_of e') r' k)
  choice n m p k t e e' c q r r' h h' h'' = record {
    grows = h.grows;
    makes = h.makes;
    below = λ v d.
        or_by (v < temporary s m) (reads (text_of q) v) (reads (text_of r) v || reads (text_of r') v) (chosen-reads v (kind_of t) (kind_of e) (kind_of e') k q r r' d) (h.below v)
        (λ u. or_by (v < temporary s m) (reads (text_of r) v) (reads (text_of r') v) u (h'.below v) (h''.below v));
    fits = λ a x w f g d. (let u = choice-words p k t e e' a w d in subst (λ z. z < 2 ^ width_of k) u.is (choice-fits k u.test (stored k (number_of (kind_of e) u.yes)) (stored k (number_of (kind_of e') u.no)) (stored_fits k (number_of (kind_of e) u.yes)) (stored_fits k (number_of (kind_of e') u.no))));
    gives = λ a x w f g d.
        (let u = choice-words p k t e e' a w d in
        subst (λ z. HasWord false width (run width c x) k (chosen (kind_of t) q (kind_of e) r (kind_of e') r' k) z) (same-choice u.test (stored k (number_of (kind_of e) u.yes)) (stored k (number_of (kind_of e') u.no)) ∙ u.is)
        (chosen_has false width (run width c x) (kind_of t) (kind_of e) (kind_of e') k u.test u.yes u.no q r r' (h.fits a x u.test f g u.of_test) (h'.fits a x u.yes f g u.of_yes) (h''.fits a x u.no f g u.of_no)
        (h.gives a x u.test f g u.of_test) (h'.gives a x u.yes f g u.of_yes) (h''.gives a x u.no f g u.of_no)));
  }
