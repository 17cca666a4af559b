-- The kind by which a constant counts has the fewest bits that hold it.
use Rattle.std.specs.Prelude.{◌≡◌, ℕ, zero, suc, ◌+◌, ◌-◌, ◌*◌, ◌^◌, ◌<◌, ◌≤◌, ◌⊎◌, min, Bool, true, false, ℤ, pos, negsuc}
use Rattle.std.proofs.Common.{refl, sym, ◌∙◌, ap, subst, arith, pow-suc, inl, inr}
use Rattle.std.proofs.lemmas.Bool.{cases_lt, lt-ltb, le-ltb}
use Rattle.scc_bits_kinds.specs.declared.kind.Kind.{Kind}
use Rattle.scc_bits_kinds.specs.Counts.{count_of, wide}
use Rattle.scc_bits_kinds.specs.Kinds.{IsValid, is_signed, converted, stored}
use Rattle.scc_bits_kinds.specs.Numbers.{Holds, low}
use Rattle.scc_bits_kinds.specs.Constants.{CountsBy, is_negative}
use Rattle.scc_bits_kinds.proofs.Low.{low_less, holds_reading}
use Rattle.scc_bits.specs.Value.{Number, exactly, counts_beside}
use Rattle.scc_plain_spec.specs.Numbers.{fewest, counted_kind, number, kind_beside, stored_in}

-- counting on from w, the first width that holds n is met
pub counts_on : (f w n b : ℕ) → w ≤ b → b ≤ w + f → n < 2 ^ b → ((m : ℕ) → w ≤ m → n < 2 ^ m → b ≤ m) → fewest f w n ≡ b
counts_on zero w n b l u h least = omega arith
counts_on (suc f) w n b l u h least = by (cases_lt n (2 ^ w)) (λ p. counts_on f (w + 1) n b p (omega arith) h (λ m o q. least m (omega arith) q))
  where
    by : (n < 2 ^ w) ⊎ (2 ^ w ≤ n) → (w + 1 ≤ b → fewest f (w + 1) n ≡ b) → fewest (suc f) w n ≡ b
    by (inl p) more = let e = lt-ltb n (2 ^ w) p in let k = least w (omega arith) p in rw e (omega arith)
    by (inr p) more =
        let e = le-ltb n (2 ^ w) p in
        let one_more : w + 1 ≤ b = apart (cases_lt w b) in
        rw e (more one_more)
      where
        apart : (w < b) ⊎ (b ≤ w) → w + 1 ≤ b
        apart (inl q) = omega arith
        apart (inr q) = let same : b ≡ w = omega arith in let k = subst (λ m. n < 2 ^ m) same h in absurd (omega arith)

-- a kind of so many bits and a sign by which a number counts
counted_at : (z : ℤ) (n : ℕ) → n ≤ 128 → 1 ≤ n → Holds (is_negative z) n z → ((m : ℕ) → 1 ≤ m → Holds (is_negative z) m z → n ≤ m) → wide n (is_negative z) ≡ counted_kind z
counted_at (pos a) n u o h least = ap (λ m. wide m false) (sym (counts_on 128 1 a n o (omega arith) h least))
counted_at (negsuc a) n u o h least = ap (λ m. wide m true) (is ∙ sym (ap (λ m. m + 1) (counts_on 128 0 a (n - 1) (omega arith) (omega arith) small fewer)))
  where
    is : n ≡ n - 1 + 1
    is = omega arith

    double : (m : ℕ) → 2 ^ (m + 1) ≡ 2 * 2 ^ m
    double m = ap (λ k. 2 ^ k) (omega arith) ∙ pow-suc 2 m ∙ omega arith

    small : a < 2 ^ (n - 1)
    small = let d = double (n - 1) in let k : 2 * a < 2 ^ (n - 1 + 1) = subst (λ m. 2 * a < 2 ^ m) is h in omega arith

    fewer : (m : ℕ) → 0 ≤ m → a < 2 ^ m → n - 1 ≤ m
    fewer m l q = let d = double m in let k = least (m + 1) (omega arith) (omega arith) in omega arith

bounded : (z : ℤ) (n : ℕ) (s : Bool) → converted (wide n s) z ≡ z → 1 ≤ min n 255 → Holds s (min (min n 255) 128) z
bounded z n s e o = subst (Holds s (min (min n 255) 128)) e (holds_reading s (min (min n 255) 128) (low (min (min n 255) 128) z) (omega arith) (low_less (min (min n 255) 128) z))

pub counts_by : (z : ℤ) (k : Kind) → CountsBy z k → k ≡ counted_kind z
counts_by z k c =
    let n = count_of k in
    let sign : is_signed k ≡ is_negative z = ap is_signed c.is_wide in
    let valid : IsValid (wide n (is_negative z)) = subst IsValid c.is_wide c.is_valid in
    let keeps : converted (wide n (is_negative z)) z ≡ z = subst (λ j. converted j z ≡ z) c.is_wide c.keeps in
    let holds : Holds (is_negative z) n z = subst (λ t. Holds t n z) sign c.holds in
    let least : (m : ℕ) → 1 ≤ m → Holds (is_negative z) m z → n ≤ m = λ m o h. c.least m o (subst (λ t. Holds t m z) (sym sign) h) in
    let most : n ≤ min (min n 255) 128 = least (min (min n 255) 128) (omega (arith, valid.0)) (bounded z n (is_negative z) keeps valid.0) in
    c.is_wide ∙ counted_at z n (omega arith) (omega (arith, valid.0)) holds least

-- the kind by which a constant counts beside another kind, by its two cases
pub counts_as : (v : Number) (other k : Kind) → (counts_beside v.kind other ≡ true → CountsBy (exactly v) k) → (counts_beside v.kind other ≡ false → k ≡ v.kind) → k ≡ kind_beside v other
counts_as v other k counted own = by (counts_beside v.kind other) refl
  where
    by : (t : Bool) → counts_beside v.kind other ≡ t → k ≡ kind_beside v other
    by true e = rw e (counts_by (exactly v) k (counted e))
    by false e = rw e (own e)

pub stands_beside : (v x : Number) (other : Kind) → (counts_beside v.kind other ≡ true → CountsBy (exactly v) x.kind) → (counts_beside v.kind other ≡ false → x.kind ≡ v.kind) → x.word ≡ stored x.kind (exactly v) → x ≡ stored_in (kind_beside v other) v
stands_beside v x other counted own word = let e = counts_as v other x.kind counted own in ap (number x.kind) word ∙ ap (λ k. stored_in k v) e
