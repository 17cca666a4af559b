-- Words of literals, variables, counters and resets.
use Rattle.std.specs.Prelude.{pos, ◌-ℤ◌, not}
use Rattle.std.specs.Ordering.{int_eq}
use Rattle.std.proofs.lemmas.Int.{ints}
use Rattle.std.proofs.Common.{◌≡◌, ◌<◌, ◌^◌, ℕ, zero, suc, nat_eq, true, false, cond, max, refl, sym, ap, ◌∙◌, subst, arith}
use Rattle.std.proofs.lemmas.Nat.{pow_pos}
use Rattle.scc_bits_kinds.specs.declared.op.Op.TheVariants as op
use Rattle.scc_bits_kinds.specs.Numbers.{low, bit}
use Rattle.scc_bits_kinds.specs.Operators.{exact}
use Rattle.scc_bits_kinds.proofs.Low.{low_word}
use Rattle.scc_svtree.specs.declared.expr.SvUnary.TheVariants as unary
use Rattle.scc_svtree.specs.declared.expr.SvBinary.TheVariants as binary
use Rattle.scc_svtree.specs.Sizes.{Sized, sized, assigned, fixed, value_of}
use Rattle.scc_svtree.specs.Term.{Term, Literal, Binary, Unary}
use Rattle.scc_lower_spec.specs.Gives.{Gives}
use Rattle.scc_lower_spec.proofs.Gives.{gives_own, gives_fixed, gives_compare, gives_context, gives_bit}
use Rattle.scc_blocks_run_laws.specs.Pieces.{variable}

is-zero : (n : ℕ) → int_eq (pos n) (pos 0) ≡ nat_eq n 0
is-zero n = grind (arith, ints)

module _ (width x : ℕ → ℕ) where
  pub variable-gives : (v w n : ℕ) → width v ≡ w → x v ≡ n → n < 2 ^ w → Gives false (sized false width x (variable v)) w n
  variable-gives v w n e f l =
      let P : ℕ → Type 0 = λ m. Gives false (fixed (width v) false m) w n in
      let Q : ℕ → Type 0 = λ k. Gives false (fixed k false n) w n in
      subst P (sym f) (subst Q (sym e) (gives_fixed false w n l))

  pub literal-gives : (w n : ℕ) → n < 2 ^ w → Gives false (sized false width x (Literal w n)) w n
  literal-gives w n l = gives_fixed false w n l

  -- whether a counter is 0
  pub counter-test : (v w n : ℕ) → width v ≡ w → x v ≡ n → n < 2 ^ w → nat_eq (value_of width x (Binary binary.Ne (variable v) (Literal w 0))) 0 ≡ nat_eq n 0
  counter-test v w n e f l =
      let g : Gives false (sized false width x (Binary binary.Ne (variable v) (Literal w 0))) 1 (low 1 (exact op.Ne w (pos n) (pos 0))) =
      gives_compare false op.Ne (sized false width x (variable v)) (sized false width x (Literal w 0)) w n 0 (variable-gives v w n e f l) (literal-gives w 0 (pow_pos w)) in
      ap (λ k. nat_eq k 0) (gives_own false (sized false width x (Binary binary.Ne (variable v) (Literal w 0))) 1 (low 1 (exact op.Ne w (pos n) (pos 0))) g) ∙ by n
    where
      by : (n : ℕ) → nat_eq (low 1 (exact op.Ne w (pos n) (pos 0))) 0 ≡ nat_eq n 0
      by zero = refl
      by (suc n) = ap (λ b. nat_eq (low 1 (bit (not b))) 0) (is-zero (suc n)) ∙ grind arith

  less-one : (w n : ℕ) → n < 2 ^ w → low w (pos (suc n) -ℤ pos 1) ≡ n
  less-one w n l = ap (low w) less ∙ low_word w n l
    where
      less : pos (suc n) -ℤ pos 1 ≡ pos n
      less = omega (arith, ints)

  -- one less
  pub counter-less : (v w n : ℕ) → 1 < 2 ^ w → width v ≡ w → x v ≡ suc n → suc n < 2 ^ w → Gives false (sized false width x (Binary binary.Sub (variable v) (Literal w 1))) w n
  counter-less v w n o e f l =
      let g : Gives false (sized false width x (Binary binary.Sub (variable v) (Literal w 1))) w (low w (exact op.Sub w (pos (suc n)) (pos 1))) =
      gives_context false op.Sub (sized false width x (variable v)) (sized false width x (Literal w 1)) w (suc n) 1 (variable-gives v w (suc n) e f l) (literal-gives w 1 o) in
      (g.0, g.1, g.2 ∙ less-one w n (omega arith))

  -- whether a word of one bit isn't 0
  pub not-test : (t : Term) (n : ℕ) → Gives false (sized false width x t) 1 n → nat_eq (value_of width x (Unary unary.LogNot t)) 0 ≡ cond (nat_eq n 0) false true
  not-test t n h =
      let g : Gives false (sized false width x (Unary unary.LogNot t)) 1 (low 1 (exact op.LogNot 1 (pos n) (pos 0))) = gives_bit false op.LogNot (sized false width x t) 1 n h in
      ap (λ k. nat_eq k 0) (gives_own false (sized false width x (Unary unary.LogNot t)) 1 (low 1 (exact op.LogNot 1 (pos n) (pos 0))) g) ∙ by n
    where
      by : (n : ℕ) → nat_eq (low 1 (exact op.LogNot 1 (pos n) (pos 0))) 0 ≡ cond (nat_eq n 0) false true
      by zero = refl
      by (suc n) = ap (λ b. nat_eq (low 1 (bit (not (not b)))) 0) (is-zero (suc n)) ∙ grind arith

-- what gives a word that fits is assigned as that word
pub gives-assigned : (e : Sized) (w n : ℕ) → n < 2 ^ w → Gives false e w n → assigned w e ≡ n
gives-assigned e w n l g =
    let m : max w e.len ≡ w = ap (λ k. max w k) g.0 ∙ omega arith in
    (λ i. low w (pos (e.word (m i) (g.1 i)))) ∙ ap (λ k. low w (pos k)) g.2 ∙ low_word w n l
