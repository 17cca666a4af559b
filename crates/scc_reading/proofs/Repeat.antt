-- A repetition, with a state that goes from part to part.
use Rattle.std.specs.Prelude.{◌≡◌, ℕ, zero, suc, ◌+◌, ◌<◌, ◌≤◌, Bool, true, false, List, [], ◌∷◌, length, Ok, Err, refl}
use Rattle.std.proofs.Common.{◌∙◌, ap, subst, arith, length-append}
use Rattle.scc_reading.specs.Reading.{unexpected, too_deep, Outcome, Parser, and_then, ◌>>=◌, pure, is_next, by_test, choose, repeat_in_from, repeat_in, repeat, repeat_on}
use Rattle.scc_reading.proofs.Answer.{no_front, Rule, Gave, Answer, Answers}
use Rattle.scc_reading.proofs.Core.{answers_pure, answer_then, answer_less, answer_choose, same_by_test}
use Rattle.scc_reading.proofs.Steps.{answers_seq}

module _ {T : Type 0} where
  pub shorter : {A : Type 0} {n : ℕ} {R : Rule T A} {p : Parser T A} (ts : List T) (a : A) (r : List T) → Gave (suc n) R p ts a r → length r < length ts
  shorter ts a r k = omega (arith, k.long, length-append k.w.word r, ap length (k.whole ∙ k.w.is r))

  module _ {S A : Type 0} (test : S → T → Bool) (n : ℕ) (R : S → Rule T (A × S)) (p : S → Parser T (A × S)) (hp : (s : S) → Answers (suc n) (R s) (p s)) where
    abbrev step_with : (S → Parser T (List A × S)) → A × S → Parser T (List A × S)
    step_with rest x = rest x.1 >>= λ more. pure (x.0 ∷ more.0, more.1)

    same_turns_in : (i j : ℕ) (s : S) (ts : List T) → length ts ≤ i → length ts ≤ j → repeat_in_from test p i s ts ≡ repeat_in_from test p j s ts
    unfolding repeat_in_from
    same_turns_in zero zero s ts h k = refl
    same_turns_in zero (suc j) s [] h k = refl
    same_turns_in zero (suc j) s (t ∷ ts) h k = absurd (omega arith)
    same_turns_in (suc i) zero s [] h k = refl
    same_turns_in (suc i) zero s (t ∷ ts) h k = absurd (omega arith)
    same_turns_in (suc i) (suc j) s ts h k = same_by_test (is_next (test s) ts) (p s >>= λ x. repeat_in_from test p i x.1 >>= λ more. pure (x.0 ∷ more.0, more.1)) (p s >>= λ x. repeat_in_from test p j x.1 >>= λ more. pure (x.0 ∷ more.0, more.1)) (pure ([], s)) ts
        (go (p s ts) ((hp s).at ts) (λ u r l. same_turns_in i j u r (omega arith) (omega arith)))
      where
        go : (o : Outcome T (A × S)) → Answer (suc n) (R s) (p s) ts o → ((u : S) (r : List T) → length r < length ts → repeat_in_from test p i u r ≡ repeat_in_from test p j u r)
            → and_then o (step_with (λ u. repeat_in_from test p i u)) ≡ and_then o (step_with (λ u. repeat_in_from test p j u))
        go (Ok y) a f = ap (λ o. and_then {A = List A × S} {B = List A × S} o (λ more. pure (y.0.0 ∷ more.0, more.1))) (f y.0.1 y.1 (shorter ts y.0 y.1 a))
        go (Err e) a f = refl

    abbrev again_in : S → Parser T (List A × S)
    again_in s = choose (test s) (p s >>= λ x. repeat_in test p x.1 >>= λ more. pure (x.0 ∷ more.0, more.1)) (pure ([], s))

    pub repeat_in_again : (s : S) (ts : List T) → repeat_in test p s ts ≡ again_in s ts
    unfolding repeat_in repeat_in_from
    repeat_in_again s ts =
        same_turns_in (length ts) (suc (length ts)) s ts (omega arith) (omega arith)
        ∙ same_by_test (is_next (test s) ts) (p s >>= λ x. repeat_in_from test p (length ts) x.1 >>= λ more. pure (x.0 ∷ more.0, more.1)) (p s >>= λ x. repeat_in test p x.1 >>= λ more. pure (x.0 ∷ more.0, more.1)) (pure ([], s)) ts (go (p s ts) ((hp s).at ts))
      where
        go : (o : Outcome T (A × S)) → Answer (suc n) (R s) (p s) ts o → and_then o (step_with (λ u. repeat_in_from test p (length ts) u)) ≡ and_then o (step_with (λ u. repeat_in test p u))
        go (Ok y) a =
            let l : length y.1 < length ts = shorter ts y.0 y.1 a in
            ap (λ o. and_then {A = List A × S} {B = List A × S} o (λ more. pure (y.0.0 ∷ more.0, more.1))) (same_turns_in (length ts) (length y.1) y.0.1 y.1 (omega arith) (omega arith))
        go (Err e) a = refl

    -- where the rule of a part holds in those states alone in which the test may hold
    module _ (Live : S → Type 0) (live : (s : S) (t : T) → test s t ≡ true → Live s) (RL : S → Rule T (A × S)) (hl : (s : S) → Live s → Answers (suc n) (RL s) (p s))
        (Q : S → Rule T (List A × S)) (nil : (s : S) (y : List T) → Q s ([], s) y y) (cons : (s : S) → Live s → (x : A × S) (more : List A × S) (ts mid r : List T) → RL s x ts mid → Q x.1 more mid r → Q s (x.0 ∷ more.0, more.1) ts r) where
      live_at : (s : S) (ts : List T) → is_next (test s) ts ≡ true → Live s
      live_at s [] h = cc
      live_at s (t ∷ ts) h = live s t h

      abbrev Later : S → A × S → Rule T (List A × S)
      Later s x = λ found ts r. (rest : List A × S) × (found ≡ (x.0 ∷ rest.0, rest.1)) × Q x.1 rest ts r

      abbrev only_this : List A × S → Rule T (List A × S)
      only_this found = λ out ts r. (out ≡ found) × (ts ≡ r)

      moved_in : (s : S) (p₁ p₂ : Parser T (List A × S)) (o : Outcome T (List A × S)) (ts : List T) → ((ts : List T) → p₂ ts ≡ p₁ ts) → Answer 0 (Q s) p₁ ts o → Answer 0 (Q s) p₂ ts o
      moved_in s p₁ p₂ (Ok x) ts e k = record { w = k.w; long = k.long; whole = k.whole; reads = k.reads; alike = λ u h. e (k.w.onto u) ∙ k.alike u h }
      moved_in s p₁ p₂ (Err (unexpected r)) ts e k = record { w = k.w; whole = k.whole; completes = k.completes; alike = λ u h. e (k.w.onto u) ∙ k.alike u h }
      moved_in s p₁ p₂ (Err (too_deep r)) ts e k = record { w = k.w; t = k.t; more = k.more; is = k.is; whole = k.whole; completes = k.completes; alike = λ u. e (k.w.onto (k.t ∷ u)) ∙ k.alike u }

      one_turn_in : (s : S) → Live s → (ts : List T) → ((u : S) (r : List T) → length r < length ts → Answer 0 (Q u) (repeat_in test p u) r (repeat_in test p u r))
          → Answer 0 (Q s) (p s >>= λ x. repeat_in test p x.1 >>= λ more. pure (x.0 ∷ more.0, more.1)) ts ((p s >>= λ x. repeat_in test p x.1 >>= λ more. pure (x.0 ∷ more.0, more.1)) ts)
      one_turn_in s l₀ ts later = answer_less (suc n + 0) 0 (Q s) _ ts _ (omega arith) (answer_then (suc n) 0 (RL s) (Later s) (Q s) (p s) (λ x. repeat_in test p x.1 >>= λ more. pure (x.0 ∷ more.0, more.1))
          (λ x found ts mid r d e. rw e.1 (cons s l₀ x e.0 ts mid r d e.2))
          (λ x. record { by = no_front; tree = (x.0 ∷ [], x.1); reads = λ y. (([], x.1), refl, nil x.1 y) }) ts ((hl s l₀).at ts)
          (λ x r k. answer_then 0 0 (Q x.1) (λ more. only_this (x.0 ∷ more.0, more.1)) (Later s x) (repeat_in test p x.1) (λ more. pure (x.0 ∷ more.0, more.1))
          (λ rest found ts mid r d e. (rest, e.0, subst (λ m. Q x.1 rest ts m) e.1 d))
          (λ more. record { by = no_front; tree = (x.0 ∷ more.0, more.1); reads = λ y. (refl, refl) }) r (later x.1 r (shorter ts x r k))
          (λ more u _. (answers_pure (only_this (x.0 ∷ more.0, more.1)) (x.0 ∷ more.0, more.1) (λ y. (refl, refl))).at u)))

      turns_in : (i : ℕ) (s : S) (ts : List T) → length ts < i → Answer 0 (Q s) (repeat_in test p s) ts (repeat_in test p s ts)
      turns_in zero s ts h = absurd (omega arith)
      turns_in (suc i) s ts h = rw (repeat_in_again s ts) (moved_in s (again_in s) (repeat_in test p s) (again_in s ts) ts (repeat_in_again s)
          (answer_choose 0 (test s) (Q s) (p s >>= λ x. repeat_in test p x.1 >>= λ more. pure (x.0 ∷ more.0, more.1)) (pure ([], s)) ts (λ e. one_turn_in s (live_at s ts e) ts (λ u r l. turns_in i u r (omega arith))) (λ _. (answers_pure (Q s) ([], s) (nil s)).at ts)))

      pub answers_repeat_while : (s : S) → Answers 0 (Q s) (repeat_in test p s)
      answers_repeat_while s = record { some = record { by = no_front; tree = ([], s); reads = nil s }; at = λ ts. turns_in (suc (length ts)) s ts (omega arith) }

    pub answers_repeat_in : (Q : S → Rule T (List A × S)) (nil : (s : S) (y : List T) → Q s ([], s) y y) (cons : (s : S) (x : A × S) (more : List A × S) (ts mid r : List T) → R s x ts mid → Q x.1 more mid r → Q s (x.0 ∷ more.0, more.1) ts r) → (s : S) → Answers 0 (Q s) (repeat_in test p s)
    answers_repeat_in Q nil cons = answers_repeat_while (λ s. Unit {0}) (λ s t h. tt) R (λ s u. hp s) Q nil (λ s u x more ts mid r d e. cons s x more ts mid r d e)

  -- ---- repetition with no state

  module _ {A : Type 0} (test : T → Bool) (p : Parser T A) where
    abbrev stateless : Unit {0} → Parser T (A × Unit {0})
    stateless _ = p >>= λ a. pure (a, tt {0})

    abbrev with_none : A → Parser T (A × Unit {0})
    with_none a = pure (a, tt {0})

    abbrev no_turn : Parser T (List A × Unit {0})
    no_turn = pure ([], tt {0})

    abbrev add_turn : A → List A × Unit {0} → Parser T (List A × Unit {0})
    add_turn a more = pure (a ∷ more.0, more.1)

    abbrev found : Outcome T (List A × Unit {0}) → Outcome T (List A)
    found o = and_then o (λ x. pure x.0)

    module _ (n : ℕ) (R : Rule T A) (hp : Answers (suc n) R p) where
      abbrev RStateless : Unit {0} → Rule T (A × Unit {0})
      RStateless _ = λ x ts r. R x.0 ts r

      answers_stateless : (s : Unit {0}) → Answers (suc n) (RStateless s) (stateless s)
      answers_stateless s = answers_seq hp (λ a. answers_pure _ (a, tt {0}) (λ y ts d. d))

      pub repeat_again : (ts : List T) → repeat test p ts ≡ choose test (p >>= λ a. repeat test p >>= λ more. pure (a ∷ more)) (pure []) ts
      unfolding repeat
      repeat_again ts = ap found (repeat_in_again (λ _. test) n RStateless stateless answers_stateless (tt {0}) ts) ∙ pick (is_next test ts)
        where
          later : (a : A) (o : Outcome T (List A × Unit {0})) → found (and_then o (add_turn a)) ≡ and_then (found o) (λ more. pure (a ∷ more))
          later a (Ok y) = refl
          later a (Err f) = refl

          go : (o : Outcome T A) → found (and_then (and_then o with_none) (λ x. repeat_in (λ _. test) stateless x.1 >>= add_turn x.0)) ≡ and_then o (λ a. (λ us. found (repeat_in (λ _. test) stateless (tt {0}) us)) >>= λ more. pure (a ∷ more))
          go (Ok x) = later x.0 (repeat_in (λ _. test) stateless (tt {0}) x.1)
          go (Err f) = refl

          pick : (b : Bool) → found (by_test b (stateless (tt {0}) >>= λ x. repeat_in (λ _. test) stateless x.1 >>= add_turn x.0) no_turn ts) ≡ by_test b (p >>= λ a. (λ us. found (repeat_in (λ _. test) stateless (tt {0}) us)) >>= λ more. pure (a ∷ more)) (pure []) ts
          pick true = go (p ts)
          pick false = refl

      pub answers_repeat : (Q : Rule T (List A)) (nil : (y : List T) → Q [] y y) (cons : (a : A) (more : List A) (ts mid r : List T) → R a ts mid → Q more mid r → Q (a ∷ more) ts r) → Answers 0 Q (repeat test p)
      unfolding repeat
      answers_repeat Q nil cons = answers_seq (answers_repeat_in (λ _. test) n RStateless stateless answers_stateless (λ _ x ts r. Q x.0 ts r) (λ _ y. nil y) (λ _ x more ts mid r d k. cons x.0 more.0 ts mid r d k) (tt {0}))
          (λ x. answers_pure _ x.0 (λ y ts d. d))

  -- ---- repetition on a state

  module _ {S : Type 0} (test : S → T → Bool) (p : S → Parser T S) where
    abbrev kept : S → Parser T (Unit {0} × S)
    kept s = p s >>= λ u. pure (tt {0}, u)

    abbrev last : Outcome T (List (Unit {0}) × S) → Outcome T S
    last o = and_then o (λ x. pure x.1)

    abbrev with_unit : S → Parser T (Unit {0} × S)
    with_unit u = pure (tt {0}, u)

    abbrev one_unit : Unit {0} → List (Unit {0}) × S → Parser T (List (Unit {0}) × S)
    one_unit a more = pure (a ∷ more.0, more.1)

    abbrev no_unit : S → Parser T (List (Unit {0}) × S)
    no_unit s = pure ([], s)

    module _ (n : ℕ) (R : S → Rule T S) (hp : (s : S) → Answers (suc n) (R s) (p s)) where
      abbrev RKept : S → Rule T (Unit {0} × S)
      RKept s = λ x ts r. R s x.1 ts r

      answers_kept : (s : S) → Answers (suc n) (RKept s) (kept s)
      answers_kept s = answers_seq (hp s) (λ u. answers_pure _ (tt {0}, u) (λ y ts d. d))

      pub repeat_on_again : (s : S) (ts : List T) → repeat_on test p s ts ≡ choose (test s) (p s >>= repeat_on test p) (pure s) ts
      unfolding repeat_on
      repeat_on_again s ts = ap last (repeat_in_again test n RKept kept answers_kept s ts) ∙ pick (is_next (test s) ts)
        where
          later : (o : Outcome T (List (Unit {0}) × S)) → last (and_then o (one_unit (tt {0}))) ≡ last o
          later (Ok y) = refl
          later (Err f) = refl

          go : (o : Outcome T S) → last (and_then (and_then o with_unit) (λ x. repeat_in test kept x.1 >>= one_unit x.0)) ≡ and_then o (λ u us. last (repeat_in test kept u us))
          go (Ok x) = later (repeat_in test kept x.0 x.1)
          go (Err f) = refl

          pick : (b : Bool) → last (by_test b (kept s >>= λ x. repeat_in test kept x.1 >>= one_unit x.0) (no_unit s) ts) ≡ by_test b (p s >>= λ u us. last (repeat_in test kept u us)) (pure s) ts
          pick true = go (p s ts)
          pick false = refl

      pub answers_repeat_on : (Q : S → Rule T S) (nil : (s : S) (y : List T) → Q s s y y) (cons : (s u v : S) (ts mid r : List T) → R s u ts mid → Q u v mid r → Q s v ts r) → (s : S) → Answers 0 (Q s) (repeat_on test p s)
      unfolding repeat_on
      answers_repeat_on Q nil cons s = answers_seq (answers_repeat_in test n RKept kept answers_kept (λ s x ts r. Q s x.1 ts r) (λ s y. nil s y) (λ s x more ts mid r d k. cons s x.1 more.1 ts mid r d k) s)
          (λ x. answers_pure _ x.1 (λ y ts d. d))
