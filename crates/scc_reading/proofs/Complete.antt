-- What is of a grammar is read, up to the first token that opens a level too many: how this follows for a text from its parts.
use Rattle.std.specs.Prelude.{◌≡◌, ℕ, suc, Bool, true, false, List, [], ◌∷◌, Option, Some, None, Ok, Err, refl}
use Rattle.std.proofs.Common.{sym, ◌∙◌, ap, subst}
use Rattle.scc_reading.specs.Reading.{unexpected, too_deep, Outcome, Parser, and_then, ◌>>=◌, pure, fail, is_next, by_test, choose, repeat_in, repeat, repeat_on, closed}
use Rattle.scc_reading.specs.Level.{◌then◌}
use Rattle.scc_reading.proofs.Answer.{Rule, Answers}
use Rattle.scc_reading.proofs.Repeat.{repeat_again, repeat_in_again, repeat_on_again}

module _ {T : Type 0} where
  abbrev pub verdict : {A : Type 0} → Option (List T) → A → List T → Outcome T A
  verdict None a r = Ok (a, r)
  verdict (Some at) a r = Err (too_deep at)

  -- the outcome is this tree and rest, unless the token opens a level too many
  pub record Is {A : Type 0} (o : Outcome T A) (v : Option (List T)) (a : A) (r : List T) : Type 0 where
    pub is : o ≡ verdict v a r

  -- a part, and then the others
  pub vthen : {A B : Type 0} {o : Outcome T A} {v w : Option (List T)} {a : A} {mid : List T} {b : B} {r : List T} (f : A → Parser T B)
      → Is o v a mid → Is (f a mid) w b r → Is (and_then o f) (v then w) b r
  vthen {A} {B} {o} {v} {w} {a} {mid} {b} {r} f h k = record { is = rw h.is (go v) }
    where
      go : (v : Option (List T)) → and_then (verdict v a mid) f ≡ verdict (v then w) b r
      go None = k.is
      go (Some at) = refl

  -- a part, behind which no level is opened
  pub vlast : {A B : Type 0} {o : Outcome T A} {v : Option (List T)} {a : A} {mid : List T} {b : B} {r : List T} (f : A → Parser T B)
      → Is o v a mid → f a mid ≡ Ok (b, r) → Is (and_then o f) v b r
  vlast {A} {B} {o} {v} {a} {mid} {b} {r} f h k = record { is = rw h.is (go v) }
    where
      go : (v : Option (List T)) → and_then (verdict v a mid) f ≡ verdict v b r
      go None = k
      go (Some at) = refl

  pub same : {A : Type 0} {o u : Outcome T A} {v : Option (List T)} {a : A} {r : List T} → o ≡ u → Is u v a r → Is o v a r
  same h k = record { is = h ∙ k.is }

  pub done : {A : Type 0} {o : Outcome T A} {a : A} {r : List T} → o ≡ Ok (a, r) → Is o None a r
  done h = record { is = h }

  pub by_level : {A : Type 0} {o : Outcome T A} {v w : Option (List T)} {a : A} {r : List T} → v ≡ w → Is o v a r → Is o w a r
  by_level {A} {o} {v} {w} {a} {r} h k = subst (λ u. Is o u a r) h k

  pub not_unexpected : {A : Type 0} {o : Outcome T A} {v : Option (List T)} {a : A} {r ts : List T} → Is o v a r → o ≡ Err (unexpected ts) → ⊥
  not_unexpected {A} {o} {v} {a} {r} {ts} h k = go v (sym h.is ∙ k)
    where
      go : (v : Option (List T)) → verdict v a r ≡ Err (unexpected ts) → ⊥
      go None m = cc
      go (Some at) m = cc

  pub then_assoc : (a b c : Option (List T)) → ((a then b) then c) ≡ (a then (b then c))
  then_assoc None b c = refl
  then_assoc (Some at) b c = refl

  pub and_then_assoc : {A B C : Type 0} (o : Outcome T A) (f : A → Parser T B) (g : B → Parser T C) → and_then (and_then o f) g ≡ and_then o (λ a ts. and_then (f a ts) g)
  and_then_assoc (Ok x) f g = refl
  and_then_assoc (Err e) f g = refl

  -- ---- what the next token says

  pub picked : {A : Type 0} (test : T → Bool) (p q : Parser T A) (ts : List T) → is_next test ts ≡ true → choose test p q ts ≡ p ts
  picked test p q ts h = ap (λ b. by_test b p q ts) h

  pub passed : {A : Type 0} (test : T → Bool) (p q : Parser T A) (ts : List T) → is_next test ts ≡ false → choose test p q ts ≡ q ts
  passed test p q ts h = ap (λ b. by_test b p q ts) h

  pub is_deep : {A : Type 0} (begins : T → Bool) (ts : List T) → is_next begins ts ≡ true → closed {A = A} begins ts ≡ Err (too_deep ts)
  is_deep begins ts h = ap (λ b. by_test b (λ ts. Err (too_deep ts)) fail ts) h

  pub is_stuck : {A : Type 0} (begins : T → Bool) (ts : List T) → is_next begins ts ≡ false → closed {A = A} begins ts ≡ Err (unexpected ts)
  is_stuck begins ts h = ap (λ b. by_test b (λ ts. Err (too_deep ts)) fail ts) h

  -- ---- repetition

  -- what a repetition does: one turn or none, and then the same
  abbrev pub Again : {A : Type 0} → (T → Bool) → Parser T A → Type 0
  Again test q = (ts : List T) → repeat test q ts ≡ choose test (q >>= λ a. repeat test q >>= λ more. pure (a ∷ more)) (pure []) ts

  pub again_of : {A : Type 0} {n : ℕ} {R : Rule T A} {q : Parser T A} (test : T → Bool) → Answers (suc n) R q → Again test q
  again_of {A} {n} {R} {q} test h = repeat_again test q n R h

  pub turn : {A : Type 0} (test : T → Bool) (q : Parser T A) (ts : List T) {v w : Option (List T)} {a : A} {mid : List T} {more : List A} {r : List T}
      → Again test q → is_next test ts ≡ true → Is (q ts) v a mid → Is (repeat test q mid) w more r → Is (repeat test q ts) (v then w) (a ∷ more) r
  turn test q ts again h d k = same (again ts ∙ ap (λ b. by_test b (q >>= λ a. repeat test q >>= λ more. pure (a ∷ more)) (pure []) ts) h) (vthen _ d (vlast _ k refl))

  pub last_turn : {A : Type 0} (test : T → Bool) (q : Parser T A) (ts : List T) → Again test q → is_next test ts ≡ false → Is (repeat test q ts) None [] ts
  last_turn test q ts again h = done (again ts ∙ ap (λ b. by_test b (q >>= λ a. repeat test q >>= λ more. pure (a ∷ more)) (pure []) ts) h)

  abbrev add_turn : {A S : Type 0} → A → List A × S → Parser T (List A × S)
  add_turn a more = pure (a ∷ more.0, more.1)

  abbrev end : {A S : Type 0} → S → Parser T (List A × S)
  end s = pure ([], s)

  -- the same with a state
  abbrev pub AgainIn : {A S : Type 0} → (S → T → Bool) → (S → Parser T (A × S)) → Type 0
  AgainIn test q = (s : _) (ts : List T) → repeat_in test q s ts ≡ choose (test s) (q s >>= λ x. repeat_in test q x.1 >>= add_turn x.0) (end s) ts

  pub again_in_of : {A S : Type 0} {n : ℕ} {R : S → Rule T (A × S)} {q : S → Parser T (A × S)} (test : S → T → Bool) → ((s : S) → Answers (suc n) (R s) (q s)) → AgainIn test q
  again_in_of {A} {S} {n} {R} {q} test h = repeat_in_again test n R q h

  pub turn_in : {A S : Type 0} (test : S → T → Bool) (q : S → Parser T (A × S)) (s : S) (ts : List T) {v w : Option (List T)} {a : A} {u : S} {mid : List T} {more : List A} {last : S} {r : List T}
      → AgainIn test q → is_next (test s) ts ≡ true → Is (q s ts) v (a, u) mid → Is (repeat_in test q u mid) w (more, last) r → Is (repeat_in test q s ts) (v then w) (a ∷ more, last) r
  turn_in test q s ts again h d k = same (again s ts ∙ ap (λ b. by_test b (q s >>= λ x. repeat_in test q x.1 >>= add_turn x.0) (end s) ts) h) (vthen _ d (vlast _ k refl))

  pub last_turn_in : {A S : Type 0} (test : S → T → Bool) (q : S → Parser T (A × S)) (s : S) (ts : List T) → AgainIn test q → is_next (test s) ts ≡ false → Is (repeat_in test q s ts) None ([], s) ts
  last_turn_in test q s ts again h = done (again s ts ∙ ap (λ b. by_test b (q s >>= λ x. repeat_in test q x.1 >>= add_turn x.0) (end s) ts) h)

  -- the same where the parts are kept in the state
  abbrev pub AgainOn : {S : Type 0} → (S → T → Bool) → (S → Parser T S) → Type 0
  AgainOn {S} test q = (s : S) (ts : List T) → repeat_on test q s ts ≡ choose (test s) (q s >>= repeat_on test q) (pure s) ts

  pub again_on_of : {S : Type 0} {n : ℕ} {R : S → Rule T S} {q : S → Parser T S} (test : S → T → Bool) → ((s : S) → Answers (suc n) (R s) (q s)) → AgainOn test q
  again_on_of {S} {n} {R} {q} test h = repeat_on_again test q n R h

  pub turn_on : {S : Type 0} (test : S → T → Bool) (q : S → Parser T S) (s : S) (ts : List T) {v w : Option (List T)} {u : S} {mid : List T} {last : S} {r : List T}
      → AgainOn test q → is_next (test s) ts ≡ true → Is (q s ts) v u mid → Is (repeat_on test q u mid) w last r → Is (repeat_on test q s ts) (v then w) last r
  turn_on test q s ts again h d k = same (again s ts ∙ ap (λ b. by_test b (q s >>= repeat_on test q) (pure s) ts) h) (vthen _ d k)

  pub last_turn_on : {S : Type 0} (test : S → T → Bool) (q : S → Parser T S) (s : S) (ts : List T) → AgainOn test q → is_next (test s) ts ≡ false → Is (repeat_on test q s ts) None s ts
  last_turn_on test q s ts again h = done (again s ts ∙ ap (λ b. by_test b (q s >>= repeat_on test q) (pure s) ts) h)
