-- Names that differ in their indices alone, and those with 0 in place of some of their indices.
use Rattle.std.proofs.Common.{◌≡◌, ℕ, true, false, ◌&&◌, nat_eq, List, [], ◌∷◌, ◌++◌, refl, ap, ◌∙◌, arith}
use Rattle.std.proofs.lemmas.Bool.{eqb-true}
use Rattle.scc_core_spec.specs.Named.{Step, Named, At, Ours, Open, is_open, fits}
use Rattle.scc_elab_spec.proofs.Chains.{and-first, and-second}
use Rattle.scc_inline_counter_laws.specs.Even.{alike}

pub alike-refl : (s : List Step) → is_open s ≡ false → alike s s ≡ true
alike-refl [] o = refl
alike-refl (Named n ∷ s) o = ap (λ b. b && alike s s) (eq-self n) ∙ alike-refl s o
  where
    eq-self : (n : ℕ) → nat_eq n n ≡ true
    eq-self n = grind arith
alike-refl (At i ∷ s) o = alike-refl s o
alike-refl (Ours n ∷ s) o = ap (λ b. b && alike s s) (eq-self n) ∙ alike-refl s o
  where
    eq-self : (n : ℕ) → nat_eq n n ≡ true
    eq-self n = grind arith
alike-refl (Open z ∷ s) o = cc

pub open-front : (s : List Step) (x : Step) → is_open (s ++ x ∷ []) ≡ false → is_open s ≡ false
open-front [] x o = refl
open-front (Named n ∷ s) x o = open-front s x o
open-front (At i ∷ s) x o = open-front s x o
open-front (Ours n ∷ s) x o = open-front s x o
open-front (Open z ∷ s) x o = cc

pub open-last : (s : List Step) (z : ℕ) → is_open (s ++ Open z ∷ []) ≡ false → ⊥
open-last [] z o = cc
open-last (Named n ∷ s) z o = open-last s z o
open-last (At i ∷ s) z o = open-last s z o
open-last (Ours n ∷ s) z o = open-last s z o
open-last (Open y ∷ s) z o = cc

pub closed-end : (s : List Step) (x : Step) → is_open s ≡ false → is_open (x ∷ []) ≡ false → is_open (s ++ x ∷ []) ≡ false
closed-end [] x o e = e
closed-end (Named n ∷ s) x o e = closed-end s x o e
closed-end (At i ∷ s) x o e = closed-end s x o e
closed-end (Ours n ∷ s) x o e = closed-end s x o e
closed-end (Open z ∷ s) x o e = cc

pub alike-end : (s t : List Step) (x y : Step) → alike s t ≡ true → alike (x ∷ []) (y ∷ []) ≡ true → alike (s ++ x ∷ []) (t ++ y ∷ []) ≡ true
alike-end [] [] x y a e = e
alike-end [] (Named n ∷ t) x y a e = cc
alike-end [] (At n ∷ t) x y a e = cc
alike-end [] (Ours n ∷ t) x y a e = cc
alike-end [] (Open n ∷ t) x y a e = cc
alike-end (Named n ∷ s) [] x y a e = cc
alike-end (Named n ∷ s) (Named m ∷ t) x y a e = ap (λ b. b && alike (s ++ x ∷ []) (t ++ y ∷ [])) (and-first (nat_eq n m) (alike s t) a) ∙ alike-end s t x y (and-second (nat_eq n m) (alike s t) a) e
alike-end (Named n ∷ s) (At m ∷ t) x y a e = cc
alike-end (Named n ∷ s) (Ours m ∷ t) x y a e = cc
alike-end (Named n ∷ s) (Open m ∷ t) x y a e = cc
alike-end (At n ∷ s) [] x y a e = cc
alike-end (At n ∷ s) (Named m ∷ t) x y a e = cc
alike-end (At n ∷ s) (At m ∷ t) x y a e = alike-end s t x y a e
alike-end (At n ∷ s) (Ours m ∷ t) x y a e = cc
alike-end (At n ∷ s) (Open m ∷ t) x y a e = cc
alike-end (Ours n ∷ s) [] x y a e = cc
alike-end (Ours n ∷ s) (Named m ∷ t) x y a e = cc
alike-end (Ours n ∷ s) (At m ∷ t) x y a e = cc
alike-end (Ours n ∷ s) (Ours m ∷ t) x y a e = ap (λ b. b && alike (s ++ x ∷ []) (t ++ y ∷ [])) (and-first (nat_eq n m) (alike s t) a) ∙ alike-end s t x y (and-second (nat_eq n m) (alike s t) a) e
alike-end (Ours n ∷ s) (Open m ∷ t) x y a e = cc
alike-end (Open n ∷ s) t x y a e = cc

-- a name with 0 in place of some of its indices
pub data Zeroed : List Step → List Step → Type 0 where
  zeroed_none : Zeroed [] []
  zeroed_same : {s t : List Step} → (x : Step) → Zeroed s t → Zeroed (x ∷ s) (x ∷ t)
  zeroed_at : {s t : List Step} → (i : ℕ) → Zeroed s t → Zeroed (At i ∷ s) (At 0 ∷ t)

pub zeroed-refl : (s : List Step) → Zeroed s s
zeroed-refl [] = zeroed_none
zeroed-refl (x ∷ s) = zeroed_same x (zeroed-refl s)

pub zeroed-end : {s t : List Step} {u v : List Step} → Zeroed s t → Zeroed u v → Zeroed (s ++ u) (t ++ v)
zeroed-end zeroed_none e = e
zeroed-end (zeroed_same x z) e = zeroed_same x (zeroed-end z e)
zeroed-end (zeroed_at i z) e = zeroed_at i (zeroed-end z e)

pub zeroed-alike : {s t : List Step} → Zeroed s t → is_open s ≡ false → alike s t ≡ true
zeroed-alike zeroed_none o = refl
zeroed-alike (zeroed_same {s = s} {t = t} (Named n) z) o = ap (λ b. b && alike s t) (eq-self n) ∙ zeroed-alike z o
  where
    eq-self : (n : ℕ) → nat_eq n n ≡ true
    eq-self n = grind arith
zeroed-alike (zeroed_same (At i) z) o = zeroed-alike z o
zeroed-alike (zeroed_same {s = s} {t = t} (Ours n) z) o = ap (λ b. b && alike s t) (eq-self n) ∙ zeroed-alike z o
  where
    eq-self : (n : ℕ) → nat_eq n n ≡ true
    eq-self n = grind arith
zeroed-alike (zeroed_same (Open y) z) o = cc
zeroed-alike (zeroed_at i z) o = zeroed-alike z o

-- a name without open indices fits itself alone
pub fits-is : (s t : List Step) → is_open s ≡ false → fits s t ≡ true → s ≡ t
fits-is [] [] o e = refl
fits-is [] (y ∷ t) o e = cc
fits-is (Named n ∷ s) (Named m ∷ t) o e = λ z. Named (eqb-true n m (and-first (nat_eq n m) (fits s t) e) z) ∷ fits-is s t o (and-second (nat_eq n m) (fits s t) e) z
fits-is (At n ∷ s) (At m ∷ t) o e = λ z. At (eqb-true n m (and-first (nat_eq n m) (fits s t) e) z) ∷ fits-is s t o (and-second (nat_eq n m) (fits s t) e) z
fits-is (Ours n ∷ s) (Ours m ∷ t) o e = λ z. Ours (eqb-true n m (and-first (nat_eq n m) (fits s t) e) z) ∷ fits-is s t o (and-second (nat_eq n m) (fits s t) e) z
fits-is (Open n ∷ s) t o e = cc
fits-is (Named n ∷ s) [] o e = cc
fits-is (Named n ∷ s) (At m ∷ t) o e = cc
fits-is (Named n ∷ s) (Ours m ∷ t) o e = cc
fits-is (Named n ∷ s) (Open m ∷ t) o e = cc
fits-is (At n ∷ s) [] o e = cc
fits-is (At n ∷ s) (Named m ∷ t) o e = cc
fits-is (At n ∷ s) (Ours m ∷ t) o e = cc
fits-is (At n ∷ s) (Open m ∷ t) o e = cc
fits-is (Ours n ∷ s) [] o e = cc
fits-is (Ours n ∷ s) (Named m ∷ t) o e = cc
fits-is (Ours n ∷ s) (At m ∷ t) o e = cc
fits-is (Ours n ∷ s) (Open m ∷ t) o e = cc

pub alike-sym : (s t : List Step) → alike s t ≡ true → alike t s ≡ true
alike-sym [] [] e = refl
alike-sym [] (Named m ∷ t) e = cc
alike-sym [] (At m ∷ t) e = cc
alike-sym [] (Ours m ∷ t) e = cc
alike-sym [] (Open m ∷ t) e = cc
alike-sym (Named n ∷ s) [] e = cc
alike-sym (Named n ∷ s) (Named m ∷ t) e = let x : nat_eq m n ≡ true = grind (arith, (and-first (nat_eq n m) (alike s t) e)) in ap (λ b. b && alike t s) x ∙ alike-sym s t (and-second (nat_eq n m) (alike s t) e)
alike-sym (Named n ∷ s) (At m ∷ t) e = cc
alike-sym (Named n ∷ s) (Ours m ∷ t) e = cc
alike-sym (Named n ∷ s) (Open m ∷ t) e = cc
alike-sym (At n ∷ s) [] e = cc
alike-sym (At n ∷ s) (Named m ∷ t) e = cc
alike-sym (At n ∷ s) (At m ∷ t) e = alike-sym s t e
alike-sym (At n ∷ s) (Ours m ∷ t) e = cc
alike-sym (At n ∷ s) (Open m ∷ t) e = cc
alike-sym (Ours n ∷ s) [] e = cc
alike-sym (Ours n ∷ s) (Named m ∷ t) e = cc
alike-sym (Ours n ∷ s) (At m ∷ t) e = cc
alike-sym (Ours n ∷ s) (Ours m ∷ t) e = let x : nat_eq m n ≡ true = grind (arith, (and-first (nat_eq n m) (alike s t) e)) in ap (λ b. b && alike t s) x ∙ alike-sym s t (and-second (nat_eq n m) (alike s t) e)
alike-sym (Ours n ∷ s) (Open m ∷ t) e = cc
alike-sym (Open n ∷ s) t e = cc

pub alike-trans : (s t u : List Step) → alike s t ≡ true → alike t u ≡ true → alike s u ≡ true
alike-trans [] [] u a b = b
alike-trans [] (Named m ∷ t) u a b = cc
alike-trans [] (At m ∷ t) u a b = cc
alike-trans [] (Ours m ∷ t) u a b = cc
alike-trans [] (Open m ∷ t) u a b = cc
alike-trans (Named n ∷ s) [] u a b = cc
alike-trans (Named n ∷ s) (Named m ∷ t) u a b = let x : n ≡ m = eqb-true n m (and-first (nat_eq n m) (alike s t) a) in by u b (λ u b. alike-trans s t u (and-second (nat_eq n m) (alike s t) a) b)
  where
    by : (u : List Step) → alike (Named m ∷ t) u ≡ true → ((u : List Step) → alike t u ≡ true → alike s u ≡ true) → alike (Named n ∷ s) u ≡ true
    by [] b ih = cc
    by (Named k ∷ u) b ih = ap (λ c. c && alike s u) (ap (λ n. nat_eq n k) (eqb-true n m (and-first (nat_eq n m) (alike s t) a)) ∙ and-first (nat_eq m k) (alike t u) b) ∙ ih u (and-second (nat_eq m k) (alike t u) b)
    by (At k ∷ u) b ih = cc
    by (Ours k ∷ u) b ih = cc
    by (Open k ∷ u) b ih = cc
alike-trans (Named n ∷ s) (At m ∷ t) u a b = cc
alike-trans (Named n ∷ s) (Ours m ∷ t) u a b = cc
alike-trans (Named n ∷ s) (Open m ∷ t) u a b = cc
alike-trans (At n ∷ s) [] u a b = cc
alike-trans (At n ∷ s) (Named m ∷ t) u a b = cc
alike-trans (At n ∷ s) (At m ∷ t) u a b = by u b (λ u b. alike-trans s t u a b)
  where
    by : (u : List Step) → alike (At m ∷ t) u ≡ true → ((u : List Step) → alike t u ≡ true → alike s u ≡ true) → alike (At n ∷ s) u ≡ true
    by [] b ih = cc
    by (Named k ∷ u) b ih = cc
    by (At k ∷ u) b ih = ih u b
    by (Ours k ∷ u) b ih = cc
    by (Open k ∷ u) b ih = cc
alike-trans (At n ∷ s) (Ours m ∷ t) u a b = cc
alike-trans (At n ∷ s) (Open m ∷ t) u a b = cc
alike-trans (Ours n ∷ s) [] u a b = cc
alike-trans (Ours n ∷ s) (Named m ∷ t) u a b = cc
alike-trans (Ours n ∷ s) (At m ∷ t) u a b = cc
alike-trans (Ours n ∷ s) (Ours m ∷ t) u a b = by u b (λ u b. alike-trans s t u (and-second (nat_eq n m) (alike s t) a) b)
  where
    by : (u : List Step) → alike (Ours m ∷ t) u ≡ true → ((u : List Step) → alike t u ≡ true → alike s u ≡ true) → alike (Ours n ∷ s) u ≡ true
    by [] b ih = cc
    by (Named k ∷ u) b ih = cc
    by (At k ∷ u) b ih = cc
    by (Ours k ∷ u) b ih = ap (λ c. c && alike s u) (ap (λ n. nat_eq n k) (eqb-true n m (and-first (nat_eq n m) (alike s t) a)) ∙ and-first (nat_eq m k) (alike t u) b) ∙ ih u (and-second (nat_eq m k) (alike t u) b)
    by (Open k ∷ u) b ih = cc
alike-trans (Ours n ∷ s) (Open m ∷ t) u a b = cc
alike-trans (Open n ∷ s) t u a b = cc

pub zeroed-closed : {s t : List Step} → Zeroed s t → is_open s ≡ false → is_open t ≡ false
zeroed-closed zeroed_none o = refl
zeroed-closed (zeroed_same (Named n) z) o = zeroed-closed z o
zeroed-closed (zeroed_same (At n) z) o = zeroed-closed z o
zeroed-closed (zeroed_same (Ours n) z) o = zeroed-closed z o
zeroed-closed (zeroed_same (Open n) z) o = cc
zeroed-closed (zeroed_at i z) o = zeroed-closed z o
