-- How the answers of a function follow from those of its parts.
use Rattle.std.specs.Prelude.{◌≡◌, ℕ, ◌+◌, ◌≤◌, Bool, true, false, List, [], ◌∷◌, Option, Some, None, Ok, Err, refl}
use Rattle.std.proofs.Common.{sym, ◌∙◌, ap, arith, length-append, lit≤}
use Rattle.scc_reading.specs.Reading.{unexpected, too_deep, Outcome, Parser, and_then, ◌>>=◌, pure, fail, take_at, token, is_next, by_test, choose}
use Rattle.scc_reading.proofs.Answer.{Front, no_front, one_front, both_fronts, SameHead, same_fronts, Rule, Completes, Gave, Answer, Answers}

module _ {T : Type 0} where
  -- a rule that follows from a rule
  pub answers_by : {A : Type 0} {n : ℕ} {p : Parser T A} (R Q : Rule T A) → ((a : A) (ts r : List T) → R a ts r → Q a ts r) → Answers n R p → Answers n Q p
  answers_by {A} {n} {p} R Q f h = record { some = done no_front h.some; at = λ ts. go (p ts) ts (h.at ts) }
    where
      done : (w : Front T) → Completes R w → Completes Q w
      done w c = record { by = c.by; tree = c.tree; reads = λ y. f _ _ _ (c.reads y) }

      go : (o : Outcome T A) (ts : List T) → Answer n R p ts o → Answer n Q p ts o
      go (Ok x) ts k = record { w = k.w; long = k.long; whole = k.whole; reads = λ y. f _ _ _ (k.reads y); alike = k.alike }
      go (Err (unexpected r)) ts k = record { w = k.w; whole = k.whole; completes = done _ k.completes; alike = k.alike }
      go (Err (too_deep r)) ts k = record { w = k.w; t = k.t; more = k.more; is = k.is; whole = k.whole; completes = done _ k.completes; alike = k.alike }

  pub answers_pure : {A : Type 0} (R : Rule T A) (a : A) → ((y : List T) → R a y y) → Answers 0 R (pure a)
  answers_pure R a h = record {
    some = record { by = no_front; tree = a; reads = h };
    at = λ ts. record { w = no_front; long = lit≤ tt; whole = refl; reads = h; alike = λ s e. refl };
  }

  pub answers_fail : {A : Type 0} (n : ℕ) (R : Rule T A) → Completes R no_front → Answers n R fail
  answers_fail n R h = record { some = h; at = λ ts. record { w = no_front; whole = refl; completes = h; alike = λ s e. refl } }

  pub answer_then : {A B : Type 0} (m n : ℕ) (R : Rule T A) (S : A → Rule T B) (Q : Rule T B) (p : Parser T A) (f : A → Parser T B)
      → ((a : A) (b : B) (ts mid r : List T) → R a ts mid → S a b mid r → Q b ts r)
      → ((a : A) → Completes (S a) no_front)
      → (ts : List T) → Answer m R p ts (p ts) → ((a : A) (r : List T) → Gave m R p ts a r → Answer n (S a) (f a) r (f a r))
      → Answer (m + n) Q (p >>= f) ts (and_then (p ts) f)
  answer_then {A} {B} m n R S Q p f join some_more ts₀ hp hf = first (p ts₀) hp hf
    where
      -- the first part is completed, and the second added
      join_both : (w : Front T) → Completes R w → Completes Q w
      join_both w c =
          let rest : Completes (S c.tree) no_front = some_more c.tree in
          record { by = both_fronts c.by rest.by; tree = rest.tree; reads = λ y. join _ _ _ _ _ (c.reads (rest.by.onto y)) (rest.reads y) }

      join_later : (v w : Front T) (a : A) → ((y : List T) → R a (v.onto y) y) → Completes (S a) w → Completes Q (both_fronts v w)
      join_later v w a reads c = record { by = c.by; tree = c.tree; reads = λ y. join _ _ _ _ _ (reads (w.onto (c.by.onto y))) (c.reads y) }

      second : (ts : List T) (a : A) (r : List T) → Gave m R p ts a r → (o : Outcome T B) → Answer n (S a) (f a) r o → Answer (m + n) Q (p >>= f) ts o
      second ts a r h (Ok x) k = record {
        w = both_fronts h.w k.w;
        long = omega (arith, length-append h.w.word k.w.word, h.long, k.long);
        whole = h.whole ∙ ap h.w.onto k.whole;
        reads = λ y. join _ _ _ _ _ (h.reads (k.w.onto y)) (k.reads y);
        alike = λ s e. let same : SameHead r (k.w.onto s) = rw k.whole (same_fronts k.w x.1 s e) in ap (λ o. and_then o f) (h.alike (k.w.onto s) same) ∙ k.alike s e;
      }
      second ts a r h (Err (unexpected u)) k = record {
        w = both_fronts h.w k.w;
        whole = h.whole ∙ ap h.w.onto k.whole;
        completes = join_later h.w k.w a h.reads k.completes;
        alike = λ s e. let same : SameHead r (k.w.onto s) = rw k.whole (same_fronts k.w u s e) in ap (λ o. and_then o f) (h.alike (k.w.onto s) same) ∙ k.alike s e;
      }
      second ts a r h (Err (too_deep u)) k = record {
        w = both_fronts h.w k.w;
        t = k.t;
        more = k.more;
        is = k.is;
        whole = h.whole ∙ ap h.w.onto k.whole;
        completes =
            let c : Completes Q (both_fronts h.w (both_fronts k.w (one_front k.t))) = join_later h.w (both_fronts k.w (one_front k.t)) a h.reads k.completes in
            record { by = c.by; tree = c.tree; reads = c.reads };
        alike = λ s. let same : SameHead r (k.w.onto (k.t ∷ s)) = rw k.whole (same_fronts k.w (k.t ∷ k.more) (k.t ∷ s) refl) in ap (λ o. and_then o f) (h.alike (k.w.onto (k.t ∷ s)) same) ∙ k.alike s;
      }

      first : (o : Outcome T A) → Answer m R p ts₀ o → ((a : A) (r : List T) → Gave m R p ts₀ a r → Answer n (S a) (f a) r (f a r)) → Answer (m + n) Q (p >>= f) ts₀ (and_then o f)
      first (Ok x) h g = second ts₀ x.0 x.1 h (f x.0 x.1) (g x.0 x.1 h)
      first (Err (unexpected r)) h g = record { w = h.w; whole = h.whole; completes = join_both h.w h.completes; alike = λ s e. ap (λ o. and_then o f) (h.alike s e) }
      first (Err (too_deep r)) h g = record { w = h.w; t = h.t; more = h.more; is = h.is; whole = h.whole; completes = join_both _ h.completes; alike = λ s. ap (λ o. and_then o f) (h.alike s) }

  pub answers_then : {A B : Type 0} (m n : ℕ) (R : Rule T A) (S : A → Rule T B) (Q : Rule T B) (p : Parser T A) (f : A → Parser T B)
      → ((a : A) (b : B) (ts mid r : List T) → R a ts mid → S a b mid r → Q b ts r)
      → Answers m R p → ((a : A) → Answers n (S a) (f a)) → Answers (m + n) Q (p >>= f)
  answers_then m n R S Q p f join hp hf =
      let c : Completes R no_front = hp.some in
      let rest : Completes (S c.tree) no_front = (hf c.tree).some in
      record {
        some = record { by = both_fronts c.by rest.by; tree = rest.tree; reads = λ y. join _ _ _ _ _ (c.reads (rest.by.onto y)) (rest.reads y) };
        at = λ ts. answer_then m n R S Q p f join (λ a. (hf a).some) ts (hp.at ts) (λ a r _. (hf a).at r);
      }

  pub answer_less : {A : Type 0} (n m : ℕ) (R : Rule T A) (p : Parser T A) (ts : List T) (o : Outcome T A) → m ≤ n → Answer n R p ts o → Answer m R p ts o
  answer_less n m R p ts (Ok x) l k = record { w = k.w; long = omega (arith, k.long); whole = k.whole; reads = k.reads; alike = k.alike }
  answer_less n m R p ts (Err (unexpected r)) l k = k
  answer_less n m R p ts (Err (too_deep r)) l k = k

  -- one token
  pub answers_token : {A : Type 0} (is : T → Option A) (R : Rule T A) (t₀ : T) (a₀ : A) → is t₀ ≡ Some a₀
      → ((t : T) (a : A) → is t ≡ Some a → (y : List T) → R a (t ∷ y) y) → Answers 1 R (token is)
  answers_token {A} is R t₀ a₀ e₀ h = record { some = example; at = at }
    where
      example : Completes R no_front
      example = record { by = one_front t₀; tree = a₀; reads = h t₀ a₀ e₀ }

      at_first : (t : T) (o : Option A) → is t ≡ o → (ts : List T) → Answer 1 R (token is) (t ∷ ts) (take_at o t ts)
      at_first t (Some a) e ts = record { w = one_front t; long = lit≤ tt; whole = refl; reads = h t a e; alike = λ s _. ap (λ o. take_at o t s) e }
      at_first t None e ts = record { w = no_front; whole = refl; completes = example; alike = stops }
        where
          stops : (s : List T) → SameHead (t ∷ ts) s → token is s ≡ Err (unexpected s)
          stops [] k = elim k [ ]
          stops (u ∷ s) k = rw (← k) (ap (λ o. take_at o t s) e)

      at : (ts : List T) → Answer 1 R (token is) ts (token is ts)
      at [] = record { w = no_front; whole = refl; completes = example; alike = stops }
        where
          stops : (s : List T) → SameHead [] s → token is s ≡ Err (unexpected s)
          stops [] k = refl
          stops (u ∷ s) k = elim k [ ]
      at (t ∷ ts) = at_first t (is t) refl ts

  same_next : (test : T → Bool) (r s : List T) → SameHead r s → is_next test r ≡ is_next test s
  same_next test [] [] h = refl
  same_next test [] (u ∷ s) h = elim h [ ]
  same_next test (t ∷ r) [] h = elim h [ ]
  same_next test (t ∷ r) (u ∷ s) h = ap test h

  abbrev one_of : {A : Type 0} → Parser T A → Parser T A → Bool → Parser T A
  one_of p q b = by_test b p q

  -- one or the other, by the first token
  pub answer_choose : {A : Type 0} (n : ℕ) (test : T → Bool) (R : Rule T A) (p q : Parser T A) (ts : List T)
      → (is_next test ts ≡ true → Answer n R p ts (p ts)) → (is_next test ts ≡ false → Answer n R q ts (q ts)) → Answer n R (choose test p q) ts (choose test p q ts)
  answer_choose {A} n test R p q ts₀ hp hq = pick (is_next test ts₀) refl
    where
      -- what holds of the parser that was picked holds of both
      carry : (b : Bool) (o : Outcome T A) (ts : List T) → is_next test ts ≡ b → Answer n R (one_of p q b) ts o → Answer n R (choose test p q) ts o
      carry b (Ok x) ts e k = record { w = k.w; long = k.long; whole = k.whole; reads = k.reads; alike = λ s h. ap (λ c. by_test c p q (k.w.onto s)) (sym (same_next test _ _ (same_fronts k.w x.1 s h)) ∙ ap (is_next test) (sym k.whole) ∙ e) ∙ k.alike s h }
      carry b (Err (unexpected r)) ts e k = record { w = k.w; whole = k.whole; completes = k.completes; alike = λ s h. ap (λ c. by_test c p q (k.w.onto s)) (sym (same_next test _ _ (same_fronts k.w r s h)) ∙ ap (is_next test) (sym k.whole) ∙ e) ∙ k.alike s h }
      carry b (Err (too_deep r)) ts e k = record { w = k.w; t = k.t; more = k.more; is = k.is; whole = k.whole; completes = k.completes; alike = λ s. ap (λ c. by_test c p q (k.w.onto (k.t ∷ s))) (sym (same_next test _ _ (same_fronts k.w (k.t ∷ k.more) (k.t ∷ s) refl)) ∙ ap (is_next test) (sym k.whole) ∙ e) ∙ k.alike s }

      pick : (b : Bool) → is_next test ts₀ ≡ b → Answer n R (choose test p q) ts₀ (choose test p q ts₀)
      pick true e = rw e (carry true (p ts₀) ts₀ e (hp e))
      pick false e = rw e (carry false (q ts₀) ts₀ e (hq e))

  pub answers_choose : {A : Type 0} (n : ℕ) (test : T → Bool) (R : Rule T A) (p q : Parser T A) → Answers n R p → Answers n R q → Answers n R (choose test p q)
  answers_choose n test R p q hp hq = record { some = hp.some; at = λ ts. answer_choose n test R p q ts (λ _. hp.at ts) (λ _. hq.at ts) }

  pub same_by_test : {A : Type 0} (b : Bool) (p₁ p₂ q : Parser T A) (ts : List T) → p₁ ts ≡ p₂ ts → by_test b p₁ q ts ≡ by_test b p₂ q ts
  same_by_test true p₁ p₂ q ts h = h
  same_by_test false p₁ p₂ q ts h = refl
