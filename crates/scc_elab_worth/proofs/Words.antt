-- What numbers of parts make of a whole is what the definition makes of it.
use Rattle.std.proofs.Common.{◌≡◌, refl, ap, ◌∙◌, ℕ, Option, Some, None}
use Rattle.scc_base.specs.declared.refusal.Place.{Place}
use Rattle.scc_base.specs.declared.refusal.Refusal.{Refusal}
use Rattle.scc_bits_kinds.specs.declared.kind.Kind.{Kind}
use Rattle.scc_bits_kinds.specs.declared.op.Op.{Op}
use Rattle.scc_bits_kinds.specs.Kinds.{width_of, number_of, stored}
use Rattle.scc_bits_kinds.specs.Bits.{part, joined}
use Rattle.scc_bits.specs.Value.{Number}
use Rattle.scc_bits.specs.Values.{applied}
use Rattle.scc_semantics.specs.Scene.{chosen, bit_at, index_of}
use Rattle.scc_core_spec.specs.Resolved.{Tried, Made, Stopped, and_made, made_map}
use Rattle.scc_elab_spec.specs.Term.{Term, Convert, Unary, Binary, Choose, Bit, Range, Join, kind_of}
use Rattle.scc_elab_spec.specs.Worth.{Site, worth, applied_or}
use Rattle.scc_elab_worth.specs.Said.{Said, Is, Refuses, Nothing, and_said}
use Rattle.scc_elab_worth.specs.Numbers.{answered, operated, kept, choice, bit, range, above}

module _ (s : Site) where
  -- what is said of a term is what the definition makes of it
  abbrev pub Means : Term → Said Number → Type 0
  Means t (Is v) = (worth s t ≡ Made v.word) × (kind_of t ≡ v.kind)
  Means t (Refuses r) = worth s t ≡ Stopped r
  Means t Nothing = Unit {0}

  answered_means : (p : Place) (k : Kind) (t : Term) (o : Option ℕ) → kind_of t ≡ k → worth s t ≡ applied_or p o → Means t (answered p k o)
  answered_means p k t (Some x) j e = (e, j)
  answered_means p k t None j e = e

  pub convert_means : (p : Place) (k : Kind) (t : Term) (x : Said Number) → Means t x → Means (Convert p k t) (and_said x (λ v. Is (kept k v)))
  convert_means p k t (Is v) h = (ap (made_map (λ x. stored k (number_of (kind_of t) x))) h.0 ∙ ap (λ j. Made (stored k (number_of j v.word))) h.1, refl)
  convert_means p k t (Refuses r) h = ap (made_map (λ x. stored k (number_of (kind_of t) x))) h
  convert_means p k t Nothing h = tt

  pub unary_means : (p : Place) (k : Kind) (o : Op) (t : Term) (x : Said Number) → Means t x → Means (Unary p k o t) (and_said x (λ v. operated p k o v v))
  unary_means p k o t (Is v) h = answered_means p k (Unary p k o t) (applied o v.kind v.word v.kind v.word) refl
      (ap (λ z. and_made z (λ x. applied_or p (applied o (kind_of t) x (kind_of t) x))) h.0 ∙ ap (λ j. applied_or p (applied o j v.word j v.word)) h.1)
  unary_means p k o t (Refuses r) h = ap (λ z. and_made z (λ x. applied_or p (applied o (kind_of t) x (kind_of t) x))) h
  unary_means p k o t Nothing h = tt

  pub binary_means : (p : Place) (k : Kind) (o : Op) (t u : Term) (x y : Said Number) → Means t x → Means u y → Means (Binary p k o t u) (and_said x (λ v. and_said y (operated p k o v)))
  binary_means p k o t u (Is v) (Is w) h g = answered_means p k (Binary p k o t u) (applied o v.kind v.word w.kind w.word) refl
      (ap (λ z. and_made z (λ x. and_made (worth s u) (λ y. applied_or p (applied o (kind_of t) x (kind_of u) y)))) h.0 ∙ ap (λ z. and_made z (λ y. applied_or p (applied o (kind_of t) v.word (kind_of u) y))) g.0
      ∙ (λ i. applied_or p (applied o (h.1 i) v.word (g.1 i) w.word)))
  binary_means p k o t u (Is v) (Refuses r) h g =
      ap (λ z. and_made z (λ x. and_made (worth s u) (λ y. applied_or p (applied o (kind_of t) x (kind_of u) y)))) h.0 ∙ ap (λ z. and_made z (λ y. applied_or p (applied o (kind_of t) v.word (kind_of u) y))) g
  binary_means p k o t u (Is v) Nothing h g = tt
  binary_means p k o t u (Refuses r) y h g = ap (λ z. and_made z (λ x. and_made (worth s u) (λ y. applied_or p (applied o (kind_of t) x (kind_of u) y)))) h
  binary_means p k o t u Nothing y h g = tt

  abbrev of_choice : Kind → Kind → Kind → Tried ℕ → Tried ℕ → Tried ℕ → Tried ℕ
  of_choice k i j t a b = and_made t (λ n. and_made a (λ x. made_map (λ y. chosen n (stored k (number_of i x)) (stored k (number_of j y))) b))

  pub choose_means : (p : Place) (k : Kind) (t a b : Term) (x y z : Said Number) → Means t x → Means a y → Means b z → Means (Choose p k t a b) (and_said x (λ v. and_said y (λ m. and_said z (λ n. Is (choice k v m n)))))
  choose_means p k t a b (Is v) (Is m) (Is n) f g h = ((λ i. of_choice k (g.1 i) (h.1 i) (f.0 i) (g.0 i) (h.0 i)), refl)
  choose_means p k t a b (Is v) (Is m) (Refuses r) f g h = λ i. of_choice k (kind_of a) (kind_of b) (f.0 i) (g.0 i) (h i)
  choose_means p k t a b (Is v) (Is m) Nothing f g h = tt
  choose_means p k t a b (Is v) (Refuses r) z f g h = λ i. of_choice k (kind_of a) (kind_of b) (f.0 i) (g i) (worth s b)
  choose_means p k t a b (Is v) Nothing z f g h = tt
  choose_means p k t a b (Refuses r) y z f g h = λ i. of_choice k (kind_of a) (kind_of b) (f i) (worth s a) (worth s b)
  choose_means p k t a b Nothing y z f g h = tt

  abbrev of_bit : Kind → Kind → Tried ℕ → Tried ℕ → Tried ℕ
  of_bit i j a b = and_made a (λ x. made_map (λ y. bit_at (width_of i) x (index_of j y)) b)

  pub bit_means : (p : Place) (a b : Term) (x y : Said Number) → Means a x → Means b y → Means (Bit p a b) (and_said x (λ v. and_said y (λ i. Is (bit v i))))
  bit_means p a b (Is v) (Is w) g h = ((λ i. of_bit (g.1 i) (h.1 i) (g.0 i) (h.0 i)), refl)
  bit_means p a b (Is v) (Refuses r) g h = λ i. of_bit (kind_of a) (kind_of b) (g.0 i) (h i)
  bit_means p a b (Is v) Nothing g h = tt
  bit_means p a b (Refuses r) y g h = λ i. of_bit (kind_of a) (kind_of b) (g i) (worth s b)
  bit_means p a b Nothing y g h = tt

  pub range_means : (p : Place) (k : Kind) (a : Term) (m n : ℕ) (x : Said Number) → Means a x → Means (Range p k a m n) (and_said x (λ v. Is (range k m n v)))
  range_means p k a m n (Is v) g = (ap (made_map (part m n)) g.0, refl)
  range_means p k a m n (Refuses r) g = ap (made_map (part m n)) g
  range_means p k a m n Nothing g = tt

  abbrev of_join : Kind → Tried ℕ → Tried ℕ → Tried ℕ
  of_join j a b = and_made a (λ x. made_map (joined (width_of j) x) b)

  pub join_word : (p : Place) (k : Kind) (a b : Term) (w : ℕ) (v : Number) → worth s a ≡ Made w → Means b (Is v) → worth s (Join p k a b) ≡ Made (above w v)
  join_word p k a b w v g h = λ i. of_join (h.1 i) (g i) (h.0 i)

  pub join_stops : (p : Place) (k : Kind) (a b : Term) (w : ℕ) (r : Refusal) → worth s a ≡ Made w → worth s b ≡ Stopped r → worth s (Join p k a b) ≡ Stopped r
  join_stops p k a b w r g h = λ i. of_join (kind_of b) (g i) (h i)

  pub join_stopped : (p : Place) (k : Kind) (a b : Term) (r : Refusal) → worth s a ≡ Stopped r → worth s (Join p k a b) ≡ Stopped r
  join_stopped p k a b r g = λ i. of_join (kind_of b) (g i) (worth s b)
