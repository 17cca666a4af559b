-- Rows of which none is on a cycle have an order: the rank of a row is how many reach it.
use Rattle.std.proofs.Common.{◌≡◌, ◌<◌, ◌≤◌, ◌+◌, ◌⊎◌, inl, inr, ℕ, zero, suc, Bool, true, false, ◌||◌, ◌&&◌, cond, length, refl, subst, arith}
use Rattle.std.proofs.lemmas.Bool.{or_cases, or_left, or_right, and_parts, and_from, cases_order, false_from_ne_true}
use Rattle.scc_svtree_order.specs.Fed.{Rows, has, row_at}
use Rattle.scc_svtree_order.specs.Cycles.{Path, one, more}
use Rattle.scc_svtree_order.specs.Search.{Step, IsFree}

pub joined : (step : ℕ → ℕ → Type 0) (i j k : ℕ) → Path step i j → Path step j k → Path step i k
joined step i j k (one _ _ s) q = more i j k s q
joined step i j k (more _ n _ s p) q = more i n k s (joined step n j k p q)

-- ---- how many numbers below n pass a test

abbrev count : (ℕ → Bool) → ℕ → ℕ
count p zero = 0
count p (suc n) = cond (p n) 1 0 + count p n

at_most : (p q : ℕ → Bool) (n : ℕ) → ((i : ℕ) → i < n → p i ≡ true → q i ≡ true) → count p n ≤ count q n
at_most p q zero h = omega arith
at_most p q (suc n) h = go (p n) (q n) (h n (omega arith)) (at_most p q n (λ i l. h i (omega arith)))
  where
    go : (a b : Bool) → (a ≡ true → b ≡ true) → count p n ≤ count q n → cond a 1 0 + count p n ≤ cond b 1 0 + count q n
    go false false e l = omega arith
    go false true e l = omega arith
    go true true e l = omega arith
    go true false e l = absurd (let f : false ≡ true = e refl in cc)

fewer : (p q : ℕ → Bool) (n x : ℕ) → x < n → p x ≡ false → q x ≡ true → ((i : ℕ) → i < n → p i ≡ true → q i ≡ true) → count p n < count q n
fewer p q zero x l a b h = absurd (omega arith)
fewer p q (suc n) x l a b h = elim (cases_order x n) [
  | inl e ↦ last (p n) (q n) (subst (λ (m : ℕ). p m ≡ false) e a) (subst (λ (m : ℕ). q m ≡ true) e b) (at_most p q n (λ i m. h i (omega arith)))
  | inr (inl m) ↦ go (p n) (q n) (h n (omega arith)) (fewer p q n x m a b (λ i k. h i (omega arith)))
  | inr (inr m) ↦ absurd (omega arith)
]
  where
    last : (c d : Bool) → c ≡ false → d ≡ true → count p n ≤ count q n → cond c 1 0 + count p n < cond d 1 0 + count q n
    last false true e f m = omega arith
    last false false e f m = absurd (cc)
    last true d e f m = absurd (cc)

    go : (c d : Bool) → (c ≡ true → d ≡ true) → count p n < count q n → cond c 1 0 + count p n < cond d 1 0 + count q n
    go false false e m = omega arith
    go false true e m = omega arith
    go true true e m = omega arith
    go true false e m = absurd (let f : false ≡ true = e refl in cc)

count_all : (n : ℕ) → count (λ i. true) n ≡ n
count_all zero = refl
count_all (suc n) = let e = count_all n in omega arith

module _ (g : Rows) where
  -- j reaches k by rows below m
  abbrev reach : ℕ → ℕ → ℕ → Bool
  reach zero j k = has (row_at g k) j
  reach (suc m) j k = reach m j k || (reach m j m && reach m m k)

  reach_sound : (m j k : ℕ) → reach m j k ≡ true → Path (Step g) j k
  reach_sound zero j k h = one j k h
  reach_sound (suc m) j k h = elim (or_cases (reach m j k) (reach m j m && reach m m k) h) [
    | inl a ↦ reach_sound m j k a
    | inr b ↦ let p = and_parts (reach m j m) (reach m m k) b in joined (Step g) j m k (reach_sound m j m p.0) (reach_sound m m k p.1)
  ]

  step_reach : (m j k : ℕ) → has (row_at g k) j ≡ true → reach m j k ≡ true
  step_reach zero j k h = h
  step_reach (suc m) j k h = or_left (reach m j k) (reach m j m && reach m m k) (step_reach m j k h)

  -- reaching is transitive at the rows below m
  through : (m i j k : ℕ) → i < m → reach m j i ≡ true → reach m i k ≡ true → reach m j k ≡ true
  through zero i j k l a b = absurd (omega arith)
  through (suc m) i j k l a b = elim (cases_order i m) [
    | inl e ↦ by_last (subst (λ (n : ℕ). reach (suc m) j n ≡ true) e a) (subst (λ (n : ℕ). reach (suc m) n k ≡ true) e b)
    | inr (inl h) ↦ elim (or_cases (reach m j i) (reach m j m && reach m m i) a) [
      | inl c ↦ elim (or_cases (reach m i k) (reach m i m && reach m m k) b) [
        | inl d ↦ or_left (reach m j k) (reach m j m && reach m m k) (through m i j k h c d)
        | inr d ↦ let p = and_parts (reach m i m) (reach m m k) d in by_both (through m i j m h c p.0) p.1
      ]
      | inr c ↦ let p = and_parts (reach m j m) (reach m m i) c in elim (or_cases (reach m i k) (reach m i m && reach m m k) b) [
        | inl d ↦ by_both p.0 (through m i m k h p.1 d)
        | inr d ↦ by_both p.0 (and_parts (reach m i m) (reach m m k) d).1
      ]
    ]
    | inr (inr h) ↦ absurd (omega arith)
  ]
    where
      by_both : reach m j m ≡ true → reach m m k ≡ true → reach (suc m) j k ≡ true
      by_both p q = or_right (reach m j k) (reach m j m && reach m m k) (and_from (reach m j m) (reach m m k) p q)

      by_last : reach (suc m) j m ≡ true → reach (suc m) m k ≡ true → reach (suc m) j k ≡ true
      by_last p q = by_both (to_last (or_cases (reach m j m) (reach m j m && reach m m m) p)) (from_last (or_cases (reach m m k) (reach m m m && reach m m k) q))
        where
          to_last : (reach m j m ≡ true) ⊎ ((reach m j m && reach m m m) ≡ true) → reach m j m ≡ true
          to_last (inl c) = c
          to_last (inr c) = (and_parts (reach m j m) (reach m m m) c).0

          from_last : (reach m m k ≡ true) ⊎ ((reach m m m && reach m m k) ≡ true) → reach m m k ≡ true
          from_last (inl c) = c
          from_last (inr c) = (and_parts (reach m m m) (reach m m k) c).1

  module _ (free : (k : ℕ) → k < length g → IsFree g k) where
    abbrev pub rank : ℕ → ℕ
    rank k = count (λ i. reach (length g) i k) (length g)

    never : (k : ℕ) → k < length g → reach (length g) k k ≡ false
    never k l = false_from_ne_true (reach (length g) k k) (λ h. free k l (reach_sound (length g) k k h))

    pub rank_below : (k : ℕ) → k < length g → rank k < length g
    rank_below k l = let f : count (λ i. reach (length g) i k) (length g) < count (λ i. true) (length g) = fewer (λ i. reach (length g) i k) (λ i. true) (length g) k l (never k l) refl (λ i m h. refl) in let e = count_all (length g) in omega arith

    pub rank_above : (j k : ℕ) → j < length g → has (row_at g k) j ≡ true → rank j < rank k
    rank_above j k l h =
        fewer (λ i. reach (length g) i j) (λ i. reach (length g) i k) (length g) j l (never j l) (step_reach (length g) j k h)
        (λ i m r. through (length g) j i k l r (step_reach (length g) j k h))
