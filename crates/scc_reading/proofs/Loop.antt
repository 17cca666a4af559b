-- A loop that reads parts one by one gives what the repetition gives.
use Rattle.std.specs.Prelude.{◌≡◌, ℕ, suc, ◌<◌, Bool, true, false, List, [], ◌∷◌, ◌++◌, length, Ok, Err, refl}
use Rattle.std.proofs.Common.{sym, ◌∙◌, ap, append_assoc, append-nil}
use Rattle.scc_reading.specs.Reading.{Fault, Outcome, Parser, and_then, ◌>>=◌, pure, is_next, by_test, repeat_in, repeat, repeat_on}
use Rattle.scc_reading.proofs.Answer.{Rule, Answers, Answer}
use Rattle.scc_reading.proofs.Repeat.{shorter, repeat_again, repeat_in_again, repeat_on_again}

module _ {T : Type 0} where
  -- what has been read, before what the rest gives
  abbrev pub before : {A : Type 0} → List A → Outcome T (List A) → Outcome T (List A)
  before front read = and_then read (λ more. pure (front ++ more))

  abbrev pub before_in : {A S : Type 0} → List A → Outcome T (List A × S) → Outcome T (List A × S)
  before_in front read = and_then read (λ more. pure (front ++ more.0, more.1))

  pub nothing_before : {A : Type 0} (read : Outcome T (List A)) → before [] read ≡ read
  nothing_before (Ok x) = refl
  nothing_before (Err f) = refl

  pub nothing_before_in : {A S : Type 0} (read : Outcome T (List A × S)) → before_in [] read ≡ read
  nothing_before_in (Ok x) = refl
  nothing_before_in (Err f) = refl

  -- a part takes a token
  takes_one : {A : Type 0} (n : ℕ) (R : Rule T A) (q : Parser T A) → Answers (suc n) R q → (ts : List T) (a : A) (r : List T) → q ts ≡ Ok (a, r) → length r < length ts
  takes_one n R q h ts a r e =
      let k : Answer (suc n) R q ts (Ok (a, r)) = rw e at (h.at ts) in
      shorter ts a r k

  -- what a loop needs to know of its parts: one more, the fault of one, the end, and that each takes a token
  pub record Turns {A : Type 0} (test : T → Bool) (q : Parser T A) : Type 0 where
    pub turn : (front : List A) (ts : List T) (a : A) (r : List T) (whole : Outcome T (List A)) → is_next test ts ≡ true → q ts ≡ Ok (a, r) → before front (repeat test q ts) ≡ whole → before (front ++ a ∷ []) (repeat test q r) ≡ whole
    pub fails : (front : List A) (ts : List T) (f : Fault T) (whole : Outcome T (List A)) → is_next test ts ≡ true → q ts ≡ Err f → before front (repeat test q ts) ≡ whole → whole ≡ Err f
    pub stops : (front : List A) (ts : List T) (whole : Outcome T (List A)) → is_next test ts ≡ false → before front (repeat test q ts) ≡ whole → whole ≡ Ok (front, ts)
    pub shorter : (ts : List T) (a : A) (r : List T) → q ts ≡ Ok (a, r) → length r < length ts

  pub turns_of : {A : Type 0} (test : T → Bool) (n : ℕ) (R : Rule T A) (q : Parser T A) → Answers (suc n) R q → Turns test q
  turns_of {A} test n R q h = record { turn = turn; fails = fails; stops = stops; shorter = takes_one n R q h }
    where
      one_more : (front : List A) (a : A) (o : Outcome T (List A)) → before front (and_then o (λ more. pure (a ∷ more))) ≡ before (front ++ a ∷ []) o
      one_more front a (Ok x) = ap (λ l. Ok (l, x.1)) (sym (append_assoc front (a ∷ []) x.0))
      one_more front a (Err f) = refl

      picked : (b : Bool) (ts : List T) → is_next test ts ≡ b → repeat test q ts ≡ by_test b (q >>= λ a. repeat test q >>= λ more. pure (a ∷ more)) (pure []) ts
      picked b ts e = repeat_again test q n R h ts ∙ ap (λ b. by_test b (q >>= λ a. repeat test q >>= λ more. pure (a ∷ more)) (pure []) ts) e

      turn : (front : List A) (ts : List T) (a : A) (r : List T) (whole : Outcome T (List A)) → is_next test ts ≡ true → q ts ≡ Ok (a, r) → before front (repeat test q ts) ≡ whole → before (front ++ a ∷ []) (repeat test q r) ≡ whole
      turn front ts a r whole k e so_far = sym (one_more front a (repeat test q r))
          ∙ sym (ap (before front) (picked true ts k ∙ ap (λ o. and_then o (λ a. repeat test q >>= λ more. pure (a ∷ more))) e)) ∙ so_far

      fails : (front : List A) (ts : List T) (f : Fault T) (whole : Outcome T (List A)) → is_next test ts ≡ true → q ts ≡ Err f → before front (repeat test q ts) ≡ whole → whole ≡ Err f
      fails front ts f whole k e so_far = sym so_far ∙ ap (before front) (picked true ts k ∙ ap (λ o. and_then o (λ a. repeat test q >>= λ more. pure (a ∷ more))) e)

      stops : (front : List A) (ts : List T) (whole : Outcome T (List A)) → is_next test ts ≡ false → before front (repeat test q ts) ≡ whole → whole ≡ Ok (front, ts)
      stops front ts whole k so_far = sym so_far ∙ ap (before front) (picked false ts k) ∙ ap (λ l. Ok (l, ts)) (append-nil front)

  -- the same with a state
  pub record TurnsIn {A S : Type 0} (test : S → T → Bool) (q : S → Parser T (A × S)) : Type 0 where
    pub turn : (front : List A) (s : S) (ts : List T) (a : A) (u : S) (r : List T) (whole : Outcome T (List A × S)) → is_next (test s) ts ≡ true → q s ts ≡ Ok ((a, u), r) → before_in front (repeat_in test q s ts) ≡ whole → before_in (front ++ a ∷ []) (repeat_in test q u r) ≡ whole
    pub fails : (front : List A) (s : S) (ts : List T) (f : Fault T) (whole : Outcome T (List A × S)) → is_next (test s) ts ≡ true → q s ts ≡ Err f → before_in front (repeat_in test q s ts) ≡ whole → whole ≡ Err f
    pub stops : (front : List A) (s : S) (ts : List T) (whole : Outcome T (List A × S)) → is_next (test s) ts ≡ false → before_in front (repeat_in test q s ts) ≡ whole → whole ≡ Ok ((front, s), ts)
    pub shorter : (s : S) (ts : List T) (a : A) (u : S) (r : List T) → q s ts ≡ Ok ((a, u), r) → length r < length ts

  module _ {A S : Type 0} (test : S → T → Bool) (n : ℕ) (R : S → Rule T (A × S)) (q : S → Parser T (A × S)) (h : (s : S) → Answers (suc n) (R s) (q s)) where
    abbrev add_turn : A → List A × S → Parser T (List A × S)
    add_turn a more = pure (a ∷ more.0, more.1)

    abbrev rest : A × S → Parser T (List A × S)
    rest x = repeat_in test q x.1 >>= add_turn x.0

    abbrev end : S → Parser T (List A × S)
    end s = pure ([], s)

    one_more : (front : List A) (a : A) (o : Outcome T (List A × S)) → before_in front (and_then o (add_turn a)) ≡ before_in (front ++ a ∷ []) o
    one_more front a (Ok x) = ap (λ l. Ok ((l, x.0.1), x.1)) (sym (append_assoc front (a ∷ []) x.0.0))
    one_more front a (Err f) = refl

    picked : (b : Bool) (s : S) (ts : List T) → is_next (test s) ts ≡ b → repeat_in test q s ts ≡ by_test b (q s >>= rest) (end s) ts
    picked b s ts e = repeat_in_again test n R q h s ts ∙ ap (λ b. by_test b (q s >>= rest) (end s) ts) e

    turn : (front : List A) (s : S) (ts : List T) (a : A) (u : S) (r : List T) (whole : Outcome T (List A × S)) → is_next (test s) ts ≡ true → q s ts ≡ Ok ((a, u), r) → before_in front (repeat_in test q s ts) ≡ whole → before_in (front ++ a ∷ []) (repeat_in test q u r) ≡ whole
    turn front s ts a u r whole k e so_far = sym (one_more front a (repeat_in test q u r))
        ∙ sym (ap (before_in front) (picked true s ts k ∙ ap (λ o. and_then o rest) e)) ∙ so_far

    fails : (front : List A) (s : S) (ts : List T) (f : Fault T) (whole : Outcome T (List A × S)) → is_next (test s) ts ≡ true → q s ts ≡ Err f → before_in front (repeat_in test q s ts) ≡ whole → whole ≡ Err f
    fails front s ts f whole k e so_far = sym so_far ∙ ap (before_in front) (picked true s ts k ∙ ap (λ o. and_then o rest) e)

    stops : (front : List A) (s : S) (ts : List T) (whole : Outcome T (List A × S)) → is_next (test s) ts ≡ false → before_in front (repeat_in test q s ts) ≡ whole → whole ≡ Ok ((front, s), ts)
    stops front s ts whole k so_far = sym so_far ∙ ap (before_in front) (picked false s ts k) ∙ ap (λ l. Ok ((l, s), ts)) (append-nil front)

    pub turns_in_of : TurnsIn test q
    turns_in_of = record { turn = turn; fails = fails; stops = stops; shorter = λ s ts a u r e. takes_one n (R s) (q s) (h s) ts (a, u) r e }

  -- the same where the parts are kept in the state
  pub record TurnsOn {S : Type 0} (test : S → T → Bool) (q : S → Parser T S) : Type 0 where
    pub turn : (s : S) (ts : List T) (u : S) (r : List T) (whole : Outcome T S) → is_next (test s) ts ≡ true → q s ts ≡ Ok (u, r) → repeat_on test q s ts ≡ whole → repeat_on test q u r ≡ whole
    pub fails : (s : S) (ts : List T) (f : Fault T) (whole : Outcome T S) → is_next (test s) ts ≡ true → q s ts ≡ Err f → repeat_on test q s ts ≡ whole → whole ≡ Err f
    pub stops : (s : S) (ts : List T) (whole : Outcome T S) → is_next (test s) ts ≡ false → repeat_on test q s ts ≡ whole → whole ≡ Ok (s, ts)
    pub shorter : (s : S) (ts : List T) (u : S) (r : List T) → q s ts ≡ Ok (u, r) → length r < length ts

  module _ {S : Type 0} (test : S → T → Bool) (n : ℕ) (R : S → Rule T S) (q : S → Parser T S) (h : (s : S) → Answers (suc n) (R s) (q s)) where
    abbrev end_on : S → Parser T S
    end_on s = pure s

    picked_on : (b : Bool) (s : S) (ts : List T) → is_next (test s) ts ≡ b → repeat_on test q s ts ≡ by_test b (q s >>= repeat_on test q) (end_on s) ts
    picked_on b s ts e = repeat_on_again test q n R h s ts ∙ ap (λ b. by_test b (q s >>= repeat_on test q) (end_on s) ts) e

    pub turns_on_of : TurnsOn test q
    turns_on_of = record {
      turn = λ s ts u r whole k e so_far. sym (picked_on true s ts k ∙ ap (λ o. and_then o (repeat_on test q)) e) ∙ so_far;
      fails = λ s ts f whole k e so_far. sym so_far ∙ picked_on true s ts k ∙ ap (λ o. and_then o (repeat_on test q)) e;
      stops = λ s ts whole k so_far. sym so_far ∙ picked_on false s ts k;
      shorter = λ s ts u r e. takes_one n (R s) (q s) (h s) ts u r e;
    }
