-- What holds wherever a test does, where the test is one of two others, or of one number.
use Rattle.std.proofs.Common.{◌≡◌, ℕ, nat_eq, Bool, true, false, ◌||◌, refl, sym, subst, ap, ◌∙◌, eq-eqb, eqb-true}
use Rattle.scc_svread_written.proofs.Fits.{left_true, right_true}

pub of_both : {P : ℕ → Type 0} (a b : ℕ → Bool) → ((v : ℕ) → a v ≡ true → P v) → ((v : ℕ) → b v ≡ true → P v) → (v : ℕ) → (a v || b v) ≡ true → P v
of_both {P} a b x y v h = go (a v) refl
  where
    go : (t : Bool) → a v ≡ t → P v
    go true e = x v e
    go false e = y v (sym (ap (λ t. t || b v) e) ∙ h)

pub of_first : {P : ℕ → Type 0} (a b : ℕ → Bool) → ((v : ℕ) → (a v || b v) ≡ true → P v) → (v : ℕ) → a v ≡ true → P v
of_first a b x v h = x v (left_true (a v) (b v) h)

pub of_second : {P : ℕ → Type 0} (a b : ℕ → Bool) → ((v : ℕ) → (a v || b v) ≡ true → P v) → (v : ℕ) → b v ≡ true → P v
of_second a b x v h = x v (right_true (a v) (b v) h)

pub of_none : (P : ℕ → Type 0) (v : ℕ) → false ≡ true → P v
of_none P v h = absurd (cc)

pub of_one : (P : ℕ → Type 0) (i : ℕ) → P i → (v : ℕ) → nat_eq i v ≡ true → P v
of_one P i x v h = subst P (eqb-true i v h) x

pub at_one : {P : ℕ → Type 0} (i : ℕ) → ((v : ℕ) → nat_eq i v ≡ true → P v) → P i
at_one i x = x i (eq-eqb i i refl)
