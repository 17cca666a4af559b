-- A sequence, part by part: what is left to read has the rule of the whole, behind what has been read.
use Rattle.std.specs.Prelude.{◌≡◌, ℕ, ◌+◌, ◌≤◌, Bool, true, false, List, [], ◌∷◌, Option, Some, refl, if◌then◌else◌}
use Rattle.std.proofs.Common.{arith}
use Rattle.scc_reading.specs.Reading.{Parser, ◌>>=◌, ◌>>◌, pure, token, is_next, choose}
use Rattle.scc_reading.proofs.Answer.{Rule, Answers}
use Rattle.scc_reading.proofs.Core.{answers_then, answer_less, answers_token, answers_pure, answer_choose}

module _ {T : Type 0} where
  pub answers_less : {A : Type 0} {n m : ℕ} {R : Rule T A} {p : Parser T A} → m ≤ n → Answers n R p → Answers m R p
  answers_less {A} {n} {m} {R} {p} l h = record { some = h.some; at = λ ts. answer_less n m R p ts (p ts) l (h.at ts) }

  -- a part, and then the others
  pub answers_seq : {A B : Type 0} {m k : ℕ} {R : Rule T A} {Q : Rule T B} {p : Parser T A} {f : A → Parser T B}
      → Answers m R p → ((a : A) → Answers k (λ b mid r. (ts : List T) → R a ts mid → Q b ts r) (f a)) → Answers m Q (p >>= f)
  answers_seq {A} {B} {m} {k} {R} {Q} {p} {f} hp hf = answers_less {n = m + k} (omega arith) (answers_then m k R (λ a b mid r. (ts : List T) → R a ts mid → Q b ts r) Q p f (λ a b ts mid r d s. s ts d) hp hf)

  -- the same, where what is read last counts
  pub answers_seq_last : {A B : Type 0} {m k : ℕ} {R : Rule T A} {Q : Rule T B} {p : Parser T A} {f : A → Parser T B}
      → Answers m R p → ((a : A) → Answers k (λ b mid r. (ts : List T) → R a ts mid → Q b ts r) (f a)) → Answers k Q (p >>= f)
  answers_seq_last {A} {B} {m} {k} {R} {Q} {p} {f} hp hf = answers_less {n = m + k} (omega arith) (answers_then m k R (λ a b mid r. (ts : List T) → R a ts mid → Q b ts r) Q p f (λ a b ts mid r d s. s ts d) hp hf)

  abbrev heads : {A : Type 0} → (T → Option A) → Rule T A
  heads is = λ a ts r. (t : T) × (is t ≡ Some a) × (ts ≡ t ∷ r)

  -- a token, of which one example is known
  pub answers_head : {A B : Type 0} {k : ℕ} {Q : Rule T B} {is : T → Option A} {f : A → Parser T B} (t₀ : T) (a₀ : A) → is t₀ ≡ Some a₀
      → ((a : A) → Answers k (λ b mid r. (t : T) → is t ≡ Some a → Q b (t ∷ mid) r) (f a)) → Answers 1 Q (token is >>= f)
  answers_head {A} {B} {k} {Q} {is} {f} t₀ a₀ e₀ hf =
      answers_less {n = 1 + k} (omega arith) (answers_then 1 k (heads is) (λ a b mid r. (t : T) → is t ≡ Some a → Q b (t ∷ mid) r) Q (token is) f join
      (answers_token is (heads is) t₀ a₀ e₀ (λ t a e y. (t, e, refl))) hf)
    where
      join : (a : A) (b : B) (ts mid r : List T) → heads is a ts mid → ((t : T) → is t ≡ Some a → Q b (t ∷ mid) r) → Q b ts r
      join a b ts mid r d s = rw d.2 (s d.0 d.1)

  -- A token that its answer determines: a mark answers its place, a plain byte nothing.
  pub record IsMark {P : Type 0} (is : T → Option P) (mark : P → T) : Type 0 where
    pub some : P
    pub it : is (mark some) ≡ Some some
    pub only : (t : T) (p : P) → is t ≡ Some p → t ≡ mark p

  -- such a token, whose answer is used
  pub answers_mark_at : {P B : Type 0} {k : ℕ} {Q : Rule T B} {is : T → Option P} {mark : P → T} {f : P → Parser T B} → IsMark is mark
      → ((p : P) → Answers k (λ b mid r. Q b (mark p ∷ mid) r) (f p)) → Answers 1 Q (token is >>= f)
  answers_mark_at {P} {B} {k} {Q} {is} {mark} {f} h hf =
      answers_less {n = 1 + k} (omega arith) (answers_then 1 k (heads is) (λ p b mid r. Q b (mark p ∷ mid) r) Q (token is) f join
      (answers_token is (heads is) (mark h.some) h.some h.it (λ t a e y. (t, e, refl))) hf)
    where
      join : (p : P) (b : B) (ts mid r : List T) → heads is p ts mid → Q b (mark p ∷ mid) r → Q b ts r
      join p b ts mid r d s = rw (d.2, h.only d.0 p d.1) s

  -- such a token, whose answer is dropped
  pub answers_mark : {P B : Type 0} {k : ℕ} {Q : Rule T B} {is : T → Option P} {mark : P → T} {q : Parser T B} → IsMark is mark
      → Answers k (λ b mid r. (p : P) → Q b (mark p ∷ mid) r) q → Answers 1 Q (token is >> q)
  answers_mark {P} {B} {k} {Q} {is} {mark} {q} h hq =
      answers_less {n = 1 + k} (omega arith) (answers_then 1 k (heads is) (λ _ b mid r. (p : P) → Q b (mark p ∷ mid) r) Q (token is) (λ _. q) join
      (answers_token is (heads is) (mark h.some) h.some h.it (λ t a e y. (t, e, refl))) (λ _. hq))
    where
      join : (p : P) (b : B) (ts mid r : List T) → heads is p ts mid → ((p : P) → Q b (mark p ∷ mid) r) → Q b ts r
      join p b ts mid r d s = rw (d.2, h.only d.0 p d.1) (s p)

  -- the one token that passes a test
  pub answers_one : {B : Type 0} {k : ℕ} {Q : Rule T B} {is : T → Option (Unit {0})} {mark : T} {q : Parser T B} → IsMark is (λ _. mark)
      → Answers k (λ b mid r. Q b (mark ∷ mid) r) q → Answers 1 Q (token is >> q)
  answers_one {B} {k} {Q} {is} {mark} {q} h hq =
      answers_less {n = 1 + k} (omega arith) (answers_then 1 k (heads is) (λ _ b mid r. Q b (mark ∷ mid) r) Q (token is) (λ _. q) join
      (answers_token is (heads is) mark h.some h.it (λ t a e y. (t, e, refl))) (λ _. hq))
    where
      join : (p : Unit {0}) (b : B) (ts mid r : List T) → heads is p ts mid → Q b (mark ∷ mid) r → Q b ts r
      join p b ts mid r d s = rw (d.2, h.only d.0 p d.1) s

  -- a part whose rule is given elsewhere
  pub answers_pure_at : {A : Type 0} {R : Rule T A} {a : A} → ((y : List T) → R a y y) → Answers 0 R (pure a)
  answers_pure_at {A} {R} {a} h = answers_pure R a h

  -- one or the other, by what has been read
  pub answers_if : {A : Type 0} {n : ℕ} {R : Rule T A} {p q : Parser T A} (b : Bool) → (b ≡ true → Answers n R p) → (b ≡ false → Answers n R q) → Answers n R (if◌then◌else◌ b p q)
  answers_if true h k = h refl
  answers_if false h k = k refl

  -- one or the other, where the test says more than which tokens come next
  pub answers_choose_by : {A H : Type 0} {n : ℕ} {R : Rule T A} {test : T → Bool} {p q : Parser T A} → ((t : T) → test t ≡ true → H) → (H → Answers n R p) → Answers n R q → Answers n R (choose test p q)
  answers_choose_by {A} {H} {n} {R} {test} {p} {q} says hp hq = record { some = hq.some; at = λ ts. answer_choose n test R p q ts (λ e. (hp (told ts e)).at ts) (λ _. hq.at ts) }
    where
      told : (ts : List T) → is_next test ts ≡ true → H
      told [] e = cc
      told (t ∷ ts) e = says t e
