-- Tests that hold, and what they tell.
use Rattle.std.proofs.Common.{◌≡◌, ℕ, zero, suc, ◌<◌, Bool, true, false, not, ◌&&◌, nat_eq, List, [], ◌∷◌, Option, Some, None, refl, ap, subst, arith}
use Rattle.std.specs.Prelude.{◌||◌, ◌≤◌, nat_lt, nat_le, slice_get}
use Rattle.std.specs.List.{list_all}
use Rattle.scc_bits_kinds.specs.declared.kind.Kind.{Kind}
use Rattle.scc_bits_kinds.specs.declared.kind.Kind.TheVariants as kind
use Rattle.scc_core_spec.specs.Fit.{same_bool, same_kind, is_kind, is_nil}

pub and-first : (a b : Bool) → (a && b) ≡ true → a ≡ true
and-first true b e = refl
and-first false b e = cc

pub and-second : (a b : Bool) → (a && b) ≡ true → b ≡ true
and-second true b e = e
and-second false b e = cc

pub and-both : (a b : Bool) → a ≡ true → b ≡ true → (a && b) ≡ true
and-both true b e f = f
and-both false b e f = e

-- the first of two holds, or the second does
pub or-second : (a b : Bool) → (a || b) ≡ true → a ≡ false → b ≡ true
or-second true b e f = cc
or-second false b e f = e

pub not-false : (b : Bool) → not b ≡ true → b ≡ false
not-false true h = cc
not-false false h = refl

pub not-true : (b : Bool) → b ≡ true → not b ≡ false
not-true true h = refl
not-true false h = cc

pub nat_eq-is : (m n : ℕ) → nat_eq m n ≡ true → m ≡ n
nat_eq-is m n e = grind arith

pub nat_eq-self : (n : ℕ) → nat_eq n n ≡ true
nat_eq-self n = grind arith

pub nat_lt-is : (m n : ℕ) → nat_lt m n ≡ true → m < n
nat_lt-is m n e = grind arith

pub nat_lt-some : (n : ℕ) → nat_lt 0 (suc n) ≡ true
nat_lt-some n = grind arith

pub nat_le-is : (m n : ℕ) → nat_le m n ≡ true → m ≤ n
nat_le-is m n e = grind arith

pub same_bool-is : (a b : Bool) → same_bool a b ≡ true → a ≡ b
same_bool-is true true e = refl
same_bool-is true false e = cc
same_bool-is false true e = cc
same_bool-is false false e = refl

pub same_kind-is : (j k : Kind) → same_kind j k ≡ true → j ≡ k
same_kind-is kind.Bool kind.Bool e = refl
same_kind-is (kind.Native w s) (kind.Native v t) e =
    λ i. kind.Native (nat_eq-is w v (and-first (nat_eq w v) (same_bool s t) e) i) (same_bool-is s t (and-second (nat_eq w v) (same_bool s t) e) i)
same_kind-is (kind.Int w) (kind.Int v) e = ap kind.Int (nat_eq-is w v e)
same_kind-is (kind.Uint w) (kind.Uint v) e = ap kind.Uint (nat_eq-is w v e)
same_kind-is (kind.Big w) (kind.Big v) e = ap kind.Big (nat_eq-is w v e)
same_kind-is (kind.BigInt w) (kind.BigInt v) e = ap kind.BigInt (nat_eq-is w v e)
same_kind-is (kind.Bv w) (kind.Bv v) e = ap kind.Bv (nat_eq-is w v e)
same_kind-is (kind.Wide b s) (kind.Wide c t) e =
    λ i. kind.Wide (nat_eq-is b c (and-first (nat_eq b c) (same_bool s t) e) i) (same_bool-is s t (and-second (nat_eq b c) (same_bool s t) e) i)
same_kind-is j k e = absurd cc

pub is_kind-is : (o : Option Kind) (k : Kind) → is_kind o k ≡ true → o ≡ Some k
is_kind-is None k e = absurd cc
is_kind-is (Some j) k e = ap Some (same_kind-is j k e)

pub is_nil-is : {A : Type 0} (xs : List A) → is_nil xs ≡ true → xs ≡ []
is_nil-is [] e = refl
is_nil-is (x ∷ xs) e = absurd cc

-- what passes all is passed by each
pub all-at : {A : Type 0} (test : A → Bool) (xs : List A) (n : ℕ) (x : A) → list_all test xs ≡ true → slice_get xs n ≡ Some x → test x ≡ true
all-at test [] n x e g = absurd cc
all-at test (y ∷ ys) zero x e g = subst (λ z. test z ≡ true) (some g) (and-first (test y) (list_all test ys) e)
  where
    some : Some y ≡ Some x → y ≡ x
    some h = cc
all-at test (y ∷ ys) (suc n) x e g = all-at test ys n x (and-second (test y) (list_all test ys) e) g
