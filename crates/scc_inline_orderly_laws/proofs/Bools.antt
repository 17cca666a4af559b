-- Tests that hold, and what they tell.
use Rattle.std.proofs.Common.{◌≡◌, ℕ, zero, suc, ◌<◌, Bool, true, false, not, ◌&&◌, nat_eq, List, [], ◌∷◌, Option, Some, None, is_some, refl, ap, sym, ◌∙◌, subst, arith}
use Rattle.std.specs.Prelude.{◌||◌, ◌≤◌, nat_lt, nat_le, slice_get}
use Rattle.std.specs.List.{list_all, list_any}
use Rattle.scc_bits_kinds.specs.declared.kind.Kind.{Kind}
use Rattle.scc_bits_kinds.specs.declared.kind.Kind.TheVariants as kind
use Rattle.scc_core_spec.specs.Counted.{is_it}
use Rattle.scc_core_spec.specs.Fit.{same_bool, same_kind, is_kind, is_nil}
use Rattle.scc_inline_orderly_laws.specs.Whole.{differ}

pub and-first : (a b : Bool) → (a && b) ≡ true → a ≡ true
and-first true b e = refl
and-first false b e = cc

pub and-second : (a b : Bool) → (a && b) ≡ true → b ≡ true
and-second true b e = e
and-second false b e = cc

or-one : (a b : Bool) → a ≡ true → (a || b) ≡ true
or-one true b e = refl
or-one false b e = cc

or-two : (a b : Bool) → b ≡ true → (a || b) ≡ true
or-two true b e = refl
or-two false b e = e

pub not-true : (b : Bool) → not b ≡ true → b ≡ true → ⊥
not-true true e f = cc
not-true false e f = cc

pub not-false : (b : Bool) → not b ≡ true → b ≡ false
not-false true e = cc
not-false false e = refl

pub some-there : {A : Type 0} (o : Option A) → is_some o ≡ true → (x : A) × (o ≡ Some x)
some-there None e = absurd cc
some-there (Some x) e = (x, refl)

pub eq-is : (m n : ℕ) → nat_eq m n ≡ true → m ≡ n
eq-is m n e = grind arith

pub lt-is : (m n : ℕ) → nat_lt m n ≡ true → m < n
lt-is m n e = grind arith

pub le-is : (m n : ℕ) → nat_le m n ≡ true → m ≤ n
le-is m n e = grind arith

pub it-is : (o : ℕ) (m : Option ℕ) → is_it o m ≡ true → m ≡ Some o
it-is o None e = cc
it-is o (Some n) e = ap Some (sym (eq-is o n e))

pub same-bool-is : (a b : Bool) → same_bool a b ≡ true → a ≡ b
same-bool-is true true e = refl
same-bool-is true false e = cc
same-bool-is false true e = cc
same-bool-is false false e = refl

same-kind-is : (j k : Kind) → same_kind j k ≡ true → j ≡ k
same-kind-is kind.Bool kind.Bool e = refl
same-kind-is (kind.Native w s) (kind.Native v t) e =
    λ i. kind.Native (eq-is w v (and-first (nat_eq w v) (same_bool s t) e) i) (same-bool-is s t (and-second (nat_eq w v) (same_bool s t) e) i)
same-kind-is (kind.Int w) (kind.Int v) e = ap kind.Int (eq-is w v e)
same-kind-is (kind.Uint w) (kind.Uint v) e = ap kind.Uint (eq-is w v e)
same-kind-is (kind.Big w) (kind.Big v) e = ap kind.Big (eq-is w v e)
same-kind-is (kind.BigInt w) (kind.BigInt v) e = ap kind.BigInt (eq-is w v e)
same-kind-is (kind.Bv w) (kind.Bv v) e = ap kind.Bv (eq-is w v e)
same-kind-is (kind.Wide b s) (kind.Wide c t) e =
    λ i. kind.Wide (eq-is b c (and-first (nat_eq b c) (same_bool s t) e) i) (same-bool-is s t (and-second (nat_eq b c) (same_bool s t) e) i)
same-kind-is j k e = absurd cc

pub kind-is : (o : Option Kind) (k : Kind) → is_kind o k ≡ true → o ≡ Some k
kind-is None k e = absurd cc
kind-is (Some j) k e = ap Some (same-kind-is j k e)

pub nil-is : {A : Type 0} (xs : List A) → is_nil xs ≡ true → xs ≡ []
nil-is [] e = refl
nil-is (x ∷ xs) e = absurd cc

-- what passes all is passed by each
pub all-at : {A : Type 0} (test : A → Bool) (xs : List A) (n : ℕ) (x : A) → list_all test xs ≡ true → slice_get xs n ≡ Some x → test x ≡ true
all-at test [] n x e g = absurd cc
all-at test (y ∷ ys) zero x e g = subst (λ z. test z ≡ true) (some g) (and-first (test y) (list_all test ys) e)
  where
    some : Some y ≡ Some x → y ≡ x
    some h = cc
all-at test (y ∷ ys) (suc n) x e g = all-at test ys n x (and-second (test y) (list_all test ys) e) g

any-at : {A : Type 0} (test : A → Bool) (xs : List A) (n : ℕ) (x : A) → slice_get xs n ≡ Some x → test x ≡ true → list_any test xs ≡ true
any-at test [] n x g e = absurd cc
any-at test (y ∷ ys) zero x g e = or-one (test y) (list_any test ys) (ap test (some g) ∙ e)
  where
    some : Some y ≡ Some x → y ≡ x
    some h = cc
any-at test (y ∷ ys) (suc n) x g e = or-two (test y) (list_any test ys) (any-at test ys n x g e)

-- of which no two clash
pub differ-at : {A : Type 0} (clash : A → A → Bool) (xs : List A) (i j : ℕ) (x y : A) → differ clash xs ≡ true → slice_get xs i ≡ Some x → slice_get xs j ≡ Some y → clash x y ≡ true → i ≡ j
differ-at clash [] i j x y e g h c = absurd cc
differ-at clash (z ∷ zs) zero zero x y e g h c = refl
differ-at clash (z ∷ zs) zero (suc j) x y e g h c =
    absurd (not-true (list_any (λ y. clash z y || clash y z) zs) (and-first (not (list_any (λ y. clash z y || clash y z) zs)) (differ clash zs) e)
    (any-at (λ y. clash z y || clash y z) zs j y h (or-one (clash z y) (clash y z) (ap (λ z. clash z y) (some g) ∙ c))))
  where
    some : Some z ≡ Some x → z ≡ x
    some h = cc
differ-at clash (z ∷ zs) (suc i) zero x y e g h c =
    absurd (not-true (list_any (λ y. clash z y || clash y z) zs) (and-first (not (list_any (λ y. clash z y || clash y z) zs)) (differ clash zs) e)
    (any-at (λ y. clash z y || clash y z) zs i x g (or-two (clash z x) (clash x z) (ap (λ z. clash x z) (some h) ∙ c))))
  where
    some : Some z ≡ Some y → z ≡ y
    some h = cc
differ-at clash (z ∷ zs) (suc i) (suc j) x y e g h c = ap suc (differ-at clash zs i j x y (and-second (not (list_any (λ y. clash z y || clash y z) zs)) (differ clash zs) e) g h c)
