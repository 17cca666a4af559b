-- What code in front leaves as it is.
use Rattle.std.proofs.Common.{◌≡◌, ◌<◌, ◌≤◌, ◌^◌, ◌*◌, ◌+◌, ℕ, nat_eq, Bool, true, false, ◌||◌, length, Some, refl, sym, ap, ◌∙◌, subst, arith}
use Rattle.scc_bits_kinds.specs.declared.kind.Kind.{Kind}
use Rattle.scc_bits_kinds.specs.Kinds.{width_of}
use Rattle.scc_svtree.specs.Code.{Code, End, Assign, If, Case}
use Rattle.scc_svtree.specs.Term.{Term}
use Rattle.scc_svtree.specs.Running.{run, var_of}
use Rattle.scc_svtree.specs.Sizes.{sized}
use Rattle.scc_svtree.specs.Mentions.{assigns, arms_assign}
use Rattle.scc_svtree.proofs.Agree.{or_both_false, term_agrees}
use Rattle.scc_svtree.proofs.Kept.{run_keeps}
use Rattle.scc_core_spec.specs.Term.{kind_of}
use Rattle.scc_blocks_spec.specs.Acting.{Acting}
use Rattle.scc_blocks_spec.specs.Shown.{View, Constant, Read, Driven, Delayed, Plain, Next, Sight, Shows, ShowsCell, IsAsked, top_number}
use Rattle.scc_blocks_spec.specs.Lowered.{IsLoweredTerm}
use Rattle.scc_lower_laws.specs.Sequence.{then_code}
use Rattle.scc_lower_spec.specs.Gives.{Gives}
use Rattle.scc_core_spec.specs.Term as core
use Rattle.scc_lower_spec.proofs.Gives.{gives_fixed}
use Rattle.scc_lower_laws.specs.Outcome.{Outcome, Known, Made, HasWord, text_of}
use Rattle.scc_lower_laws.specs.Lowers.{temporary, Makes, ReadsBelow, IsNumbered, Lowers}

-- what is assigned by the one code or the other
pub either_assigns : (P : Type 0) (c d : Code) (v : ℕ) → assigns (then_code c d) v ≡ true → (assigns c v ≡ true → P) → (assigns d v ≡ true → P) → P
either_assigns P c d v h f g = by (assigns c v) refl
  where
    none : (c : Code) → assigns c v ≡ false → assigns (then_code c d) v ≡ assigns d v
    none End e = refl
    none (Assign l t r) e = let p = or_both_false (nat_eq (var_of l) v) (assigns r v) e in ap (λ b. b || assigns (then_code r d) v) p.0 ∙ none r p.1
    none (If t a b r) e = let p = or_both_false (assigns a v || assigns b v) (assigns r v) e in ap (λ b. b || assigns (then_code r d) v) p.0 ∙ none r p.1
    none (Case t arms r) e = let p = or_both_false (arms_assign arms v) (assigns r v) e in ap (λ b. b || assigns (then_code r d) v) p.0 ∙ none r p.1

    by : (b : Bool) → assigns c v ≡ b → P
    by true e = f e
    by false e = g (sym (none c e) ∙ h)

module _ (s : Sight) where
  pub makes-then : (n m k : ℕ) (c d : Code) → n ≤ m → m ≤ k → Makes s n m c → Makes s m k d → Makes s n k (then_code c d)
  makes-then n m k c d g h p q v e = either_assigns ((temporary s n ≤ v) × (v < temporary s k)) c d v e (λ e. (let r = p v e in (r.0, omega (arith, r.1)))) (λ e. (let r = q v e in (omega (arith, r.0), r.1)))

  -- a variable below the temporaries that are made stays
  pub stays : (width : ℕ → ℕ) (n m : ℕ) (c : Code) (x : ℕ → ℕ) (v : ℕ) → Makes s n m c → v < temporary s n → run width c x v ≡ x v
  stays width n m c x v p l = by (assigns c v) refl
    where
      by : (b : Bool) → assigns c v ≡ b → run width c x v ≡ x v
      by true e = let r = p v e in absurd (omega (arith, r.0))
      by false e = run_keeps width c x v e

  pub cell-stays : (v : View) (c : ℕ) (a : Acting) (x y : ℕ → ℕ) → y (2 * c) ≡ x (2 * c) → y (2 * c + 1) ≡ x (2 * c + 1) → ShowsCell v c a x → ShowsCell v c a y
  cell-stays (Constant w) c a x y e f h = h
  cell-stays Read c a x y e f h = e ∙ h
  cell-stays Driven c a x y e f h = let P : ℕ → Type 0 = λ n. IsAsked (a.asked c) n in subst P (sym e) h
  cell-stays Delayed c a x y e f h = (e ∙ h.0, f ∙ h.1)
  cell-stays Plain c a x y e f h = e ∙ h
  cell-stays Next c a x y e f h = f ∙ h

  pub shows-stays : (width : ℕ → ℕ) (n m : ℕ) (c : Code) (a : Acting) (x : ℕ → ℕ) → IsNumbered s → Makes s n m c → Shows s a x → Shows s a (run width c x)
  shows-stays width n m c a x number p h = record {
    cells = λ k e. let l = number k e in cell-stays (s.view k) k a x (run width c x) (stays width n m c x (2 * k) p (omega (arith, l))) (stays width n m c x (2 * k + 1) p (omega (arith, l))) (h.cells k e);
    leaving = stays width n m c x (2 * length s.cells) p (omega arith) ∙ h.leaving;
  }

  -- what reads no later temporaries gives what it gave
  pub term-stays : (width : ℕ → ℕ) (n m : ℕ) (c : Code) (x : ℕ → ℕ) (t : Term) → Makes s n m c → ReadsBelow s n t → sized false width (run width c x) t ≡ sized false width x t
  term-stays width n m c x t p r = term_agrees width (run width c x) x t (λ v e. stays width n m c x v p (r v e))

  pub word-stays : (width : ℕ → ℕ) (n m : ℕ) (c : Code) (x : ℕ → ℕ) (k : Kind) (o : Outcome) (w : ℕ) → Makes s n m c → ReadsBelow s n (text_of o) → HasWord false width x k o w → HasWord false width (run width c x) k o w
  word-stays width n m c x k (Known v) w p r h = h
  word-stays width n m c x k (Made t) w p r h = subst (λ z. Gives false z (width_of k) w) (sym (term-stays width n m c x t p r)) h

  pub below-more : (n m : ℕ) (t : Term) → n ≤ m → ReadsBelow s n t → ReadsBelow s m t
  below-more n m t l r v e = omega (arith, r v e)

-- the text gives the word
pub text-gives : (width x : ℕ → ℕ) (k : Kind) (o : Outcome) (w : ℕ) → w < 2 ^ width_of k → HasWord false width x k o w → Gives false (sized false width x (text_of o)) (width_of k) w
text-gives width x k (Known n) w l h =
    subst (λ z. Gives false (sized false width x z) (width_of k) w) (λ i. literal (sym h.0 i) (sym h.1 i)) (gives_fixed false (width_of k) w l)
  where
    literal : Kind → ℕ → Term
    literal k w = text_of (Known (record { kind = k; word = w }))
text-gives width x k (Made t) w l h = h

-- an expression that is lowered is shown
pub lowers-is : (s : Sight) (width : ℕ → ℕ) (n m : ℕ) (e : core.Term) (front : Code) (o : Outcome) → IsNumbered s → temporary s m ≤ top_number → Lowers s width n m e front o → IsLoweredTerm s width e front (text_of o)
lowers-is s width n m e front o number small h = record {
  shows = λ a x f p. shows-stays s width n m front a x number h.makes p;
  gives = λ a x w f p d. let g = text-gives width (run width front x) (kind_of e) o w (h.fits a x w f p d) (h.gives a x w f p d) in record { length = g.0; unsigned = g.1; value = ap Some g.2 };
  framed = λ v d. omega (arith, (h.makes v d).1);
}
