-- What a reading function leaves behind the text that it read: a fact of the run, which no rule can say, since a rule holds before every text.
use Rattle.std.specs.Prelude.{◌≡◌, Bool, true, false, List, Ok, Err, refl, if◌then◌else◌}
use Rattle.std.proofs.Common.{ap}
use Rattle.scc_reading.specs.Reading.{Outcome, Parser, and_then, ◌>>=◌, pure, fail, is_next, by_test, choose, closed, too_deep}

module _ {T : Type 0} where
  pub ok_is : {A : Type 0} (a b : A) (ts r : List T) → pure a ts ≡ pure b r → (a ≡ b) × (ts ≡ r)
  ok_is {A} a b ts r h = let both : pair a ts ≡ pair b r = cc in (ap (λ z. z.0) both, ap (λ z. z.1) both)
    where
      pair : A → List T → A × List T
      pair a ts = (a, ts)

  -- whenever it answers, this holds of the tree and the rest
  pub record Leaves {A : Type 0} (P : A → List T → Type 0) (q : Parser T A) : Type 0 where
    pub holds : (ts : List T) (a : A) (r : List T) → q ts ≡ Ok (a, r) → P a r

  module _ {A : Type 0} {P : A → List T → Type 0} where
    pub leaves_then : {B : Type 0} (q : Parser T B) {f : B → Parser T A} → ((b : B) → Leaves P (f b)) → Leaves P (q >>= f)
    leaves_then {B} q {f} h = record { holds = λ ts a r k. go a r (q ts) k }
      where
        go : (a : A) (r : List T) (o : Outcome T B) → and_then o f ≡ Ok (a, r) → P a r
        go a r (Ok y) m = (h y.0).holds y.1 a r m
        go a r (Err y) m = cc

    -- where the part before it leaves something that counts
    pub leaves_behind : {B : Type 0} {P₀ : B → List T → Type 0} {q : Parser T B} {f : B → Parser T A} → Leaves P₀ q → ((b : B) (mid : List T) → P₀ b mid → (a : A) (r : List T) → f b mid ≡ Ok (a, r) → P a r) → Leaves P (q >>= f)
    leaves_behind {B} {P₀} {q} {f} h₀ h = record { holds = λ ts a r k. go ts a r (q ts) refl k }
      where
        go : (ts : List T) (a : A) (r : List T) (o : Outcome T B) → q ts ≡ o → and_then o f ≡ Ok (a, r) → P a r
        go ts a r (Ok y) e m = h y.0 y.1 (h₀.holds ts y.0 y.1 e) a r m
        go ts a r (Err y) e m = cc

    pub leaves_choose : {test : T → Bool} {p q : Parser T A} → Leaves P p → Leaves P q → Leaves P (choose test p q)
    leaves_choose {test} {p} {q} hp hq = record { holds = λ ts a r k. go ts a r (is_next test ts) k }
      where
        go : (ts : List T) (a : A) (r : List T) (b : Bool) → by_test b p q ts ≡ Ok (a, r) → P a r
        go ts a r true m = hp.holds ts a r m
        go ts a r false m = hq.holds ts a r m

    -- where the last part finds that the test holds of no first token, this counts
    pub leaves_unless : {test : T → Bool} {p : Parser T A} {a : A} → Leaves P p → ((r : List T) → is_next test r ≡ false → P a r) → Leaves P (choose test p (pure a))
    leaves_unless {test} {p} {a} hp h = record { holds = λ ts x r k. go ts x r (is_next test ts) refl k }
      where
        go : (ts : List T) (x : A) (r : List T) (b : Bool) → is_next test ts ≡ b → by_test b p (pure a) ts ≡ Ok (x, r) → P x r
        go ts x r true e m = hp.holds ts x r m
        go ts x r false e m = let same : (a ≡ x) × (ts ≡ r) = ok_is a x ts r m in rw (← same.0, ← same.1) (h ts e)

    pub leaves_if : {p q : Parser T A} (b : Bool) → Leaves P p → Leaves P q → Leaves P (if◌then◌else◌ b p q)
    leaves_if true hp hq = hp
    leaves_if false hp hq = hq

    pub leaves_pure : {a : A} → ((r : List T) → P a r) → Leaves P (pure a)
    leaves_pure {a} h = record { holds = λ ts b r k. let same : (a ≡ b) × (ts ≡ r) = ok_is a b ts r k in rw (← same.0) (h r) }

    pub leaves_fail : Leaves P fail
    leaves_fail = record { holds = λ ts a r k. cc }

    pub leaves_closed : (begins : T → Bool) → Leaves P (closed begins)
    leaves_closed begins = record { holds = λ ts a r k. absurd (go (is_next begins ts) ts a r k) }
      where
        failed : Parser T A
        failed = λ us. Err (too_deep us)

        go : (b : Bool) (ts : List T) (a : A) (r : List T) → by_test b (λ us. Err (too_deep us)) fail ts ≡ Ok (a, r) → ⊥
        go true ts a r m = cc
        go false ts a r m = cc
