-- Lines and columns, byte by byte.
use Rattle.std.proofs.Common.{◌≡◌, ◌≢◌, ◌⊎◌, inl, inr, ℕ, ◌+◌, ◌<◌, ◌≤◌, List, ◌∷◌, length, get_or, drop, true, false, cond, ap, sym, ◌∙◌, arith, ◌==◌}
use Rattle.std.proofs.lemmas.Bool.{ne_eqb}
use Rattle.std.proofs.Math.Seq.{drop-cons}
use Rattle.std.proofs.Math.ListN.{drop_of_length-le}
use Rattle.scc_drive_errors.specs.Spots.{moved}

eqb_of : {a : ℕ} → a ≡ 10 → (a == 10) ≡ true
eqb_of {a} e = ap (λ n. n == 10) e

module _ (front : List ℕ) (i : ℕ) (h : i < length front) where
  here : drop i front ≡ get_or front i 0 ∷ drop (i + 1) front
  here = grind (arith, drop-cons front i 0)

  at_end : (line column : ℕ) → (get_or front i 0 == 10) ≡ true → moved line column (drop i front) ≡ moved (line + 1) 1 (drop (i + 1) front)
  unfolding moved
  at_end line column e = ap (moved line column) here ∙ ap (λ b. cond b (moved (line + 1) 1 (drop (i + 1) front)) (moved line (column + 1) (drop (i + 1) front))) e

  within : (line column : ℕ) → (get_or front i 0 == 10) ≡ false → moved line column (drop i front) ≡ moved line (column + 1) (drop (i + 1) front)
  unfolding moved
  within line column e = ap (moved line column) here ∙ ap (λ b. cond b (moved (line + 1) 1 (drop (i + 1) front)) (moved line (column + 1) (drop (i + 1) front))) e

  -- one byte further, where a byte that ends a line is 10
  pub turn : (line column line' column' : ℕ) (all : ℕ × ℕ) → moved line column (drop i front) ≡ all → line ≤ i + 1 → column ≤ i + 1
      → ((get_or front i 0 ≡ 10) × (line' ≡ line + 1) × (column' ≡ 1)) ⊎ ((get_or front i 0 ≢ 10) × (line' ≡ line) × (column' ≡ column + 1))
      → (moved line' column' (drop (i + 1) front) ≡ all) × (line' ≤ i + 1 + 1) × (column' ≤ i + 1 + 1)
  turn line column line' column' all inv l c (inl p) = (
    ap (λ n. moved n column' (drop (i + 1) front)) p.1 ∙ ap (λ n. moved (line + 1) n (drop (i + 1) front)) p.2 ∙ sym (at_end line column (eqb_of p.0)) ∙ inv,
    omega (arith, l, p.1),
    omega (arith, c, p.2),
  )
  turn line column line' column' all inv l c (inr p) = (
    ap (λ n. moved n column' (drop (i + 1) front)) p.1 ∙ ap (λ n. moved line n (drop (i + 1) front)) p.2 ∙ sym (within line column (ne_eqb (get_or front i 0) 10 p.0)) ∙ inv,
    omega (arith, l, p.1),
    omega (arith, c, p.2),
  )

pub over : (front : List ℕ) (i line column : ℕ) → length front ≤ i → moved line column (drop i front) ≡ (line, column)
unfolding moved
over front i line column h = ap (moved line column) (drop_of_length-le front h)
