-- A list that names each of so many processes, and has no more members, names none twice.
use Rattle.std.proofs.Common.{◌≡◌, ℕ, zero, suc, ◌+◌, ◌≤◌, Bool, true, false, ◌||◌, nat_eq, cond, List, [], ◌∷◌, length, filter, Some, refl, sym, ap, ◌∙◌, arith, slice_get, ◌⊎◌, inl, inr}
use Rattle.scc_semantics.specs.Design.{Process, Design}
use Rattle.scc_semantics.specs.Schedule.{EachOnce, among}
use Rattle.scc_core_effect_laws.proofs.Counted.{dropped, drop-length, drop-keeps}

abbrev pub Apart : List ℕ → Type 0
Apart [] = Unit {0}
Apart (i ∷ is) = (among i is ≡ false) × Apart is

-- a shorter list has the same members
abbrev Shorter : List ℕ → Type 0
Shorter is = (ys : List ℕ) × (suc (length ys) ≤ length is) × ((k : ℕ) → among k is ≡ true → among k ys ≡ true)

equal : (k i : ℕ) → nat_eq k i ≡ true → k ≡ i
equal k i e = grind arith

apart-or : (is : List ℕ) → (Apart is) ⊎ (Shorter is)
apart-or [] = inl tt
apart-or (i ∷ is) = by (among i is) refl (apart-or is)
  where
    by : (b : Bool) → among i is ≡ b → ((Apart is) ⊎ (Shorter is)) → (Apart (i ∷ is)) ⊎ (Shorter (i ∷ is))
    by true e more = inr (is, omega arith, λ k h. cases k (nat_eq k i) refl h)
      where
        cases : (k : ℕ) (b : Bool) → nat_eq k i ≡ b → (b || among k is) ≡ true → among k is ≡ true
        cases k true q h = ap (λ k. among k is) (equal k i q) ∙ e
        cases k false q h = h
    by false e (inl a) = inl (e, a)
    by false e (inr m) = let l = m.1 in inr (i ∷ m.0, omega (arith, l), λ k h. cases k (nat_eq k i) h)
      where
        cases : (k : ℕ) (b : Bool) → (b || among k is) ≡ true → (b || among k m.0) ≡ true
        cases k true h = refl
        cases k false h = m.2 k h

-- a list that names so many has as many members
counted : (test : Process → Bool) (ps : List Process) (n : ℕ) (ys : List ℕ) → ((k : ℕ) (p : Process) → slice_get ps k ≡ Some p → test p ≡ true → among (n + k) ys ≡ true) → length (filter test ps) ≤ length ys
counted test [] n ys h = omega arith
counted test (p ∷ ps) n ys h = by (test p) refl (λ zs m. counted test ps (suc n) zs m)
  where
    next : (k : ℕ) → n + suc k ≡ suc n + k
    next k = omega arith

    first : n + 0 ≡ n
    first = omega arith

    later : (k : ℕ) (q : Process) → slice_get ps k ≡ Some q → test q ≡ true → among (suc n + k) ys ≡ true
    later k q e t = ap (λ m. among m ys) (sym (next k)) ∙ h (suc k) q e t

    other : (k : ℕ) → nat_eq (suc n + k) n ≡ false
    other k = grind arith

    by : (b : Bool) → test p ≡ b → ((zs : List ℕ) → ((k : ℕ) (q : Process) → slice_get ps k ≡ Some q → test q ≡ true → among (suc n + k) zs ≡ true) → length (filter test ps) ≤ length zs)
        → length (cond b (p ∷ filter test ps) (filter test ps)) ≤ length ys
    by false t more = more ys later
    by true t more =
        let l = more (dropped n ys) (λ k q e u. drop-keeps n (suc n + k) ys (later k q e u) (other k)) in
        let d = drop-length n ys (ap (λ m. among m ys) (sym first) ∙ h zero p refl t) in
        omega (arith, l, d)

pub once-apart : (b : ℕ → ℕ) (d : Design) (test : Process → Bool) (order : List ℕ) → EachOnce b d test order → Apart order
once-apart b d test order o = by (apart-or order)
  where
    from : (k : ℕ) → k ≡ 0 + k
    from k = omega arith

    by : ((Apart order) ⊎ (Shorter order)) → Apart order
    by (inl a) = a
    by (inr m) =
        let l = m.1 in
        let n = counted test d.processes 0 m.0 (λ k p e t. ap (λ n. among n m.0) (sym (from k)) ∙ m.2 k (o.all k p e t)) in
        let s = o.once in
        absurd (omega (arith, l, n, s))
