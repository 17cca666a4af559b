-- A conversion gives the converted word.
use Rattle.std.specs.Prelude.{◌≡◌, ℕ, ◌^◌, ◌<◌, ◌≤◌, Bool, true, false, not, ◌&&◌, nat_eq, nat_lt, if◌then◌else◌, pos}
use Rattle.std.specs.Ordering.{int_eq}
use Rattle.std.proofs.Common.{refl, sym, ◌∙◌, ap, subst, arith}
use Rattle.std.proofs.lemmas.Int.{ints}
use Rattle.std.proofs.lemmas.Nat.{pow_pos}
use Rattle.scc_bits_kinds.specs.declared.kind.Kind.{Kind}
use Rattle.scc_bits_kinds.specs.declared.op.Op.TheVariants as op
use Rattle.scc_bits_kinds.specs.Numbers.{low, reading, bit}
use Rattle.scc_bits_kinds.specs.Operators.{truth}
use Rattle.scc_bits_kinds.specs.Kinds.{Fits, width_of, is_signed, is_bool, number_of, stored}
use Rattle.scc_bits_kinds.proofs.Low.{low_less, low_reading, low_low}
use Rattle.scc_bits_kinds.proofs.Words.{truth_reading}
use Rattle.scc_bits.proofs.Agreement.{bool_form}
use Rattle.scc_svtree.specs.Term.{Term, Literal, Binary, Cast, Sign}
use Rattle.scc_svtree.specs.declared.expr.SvBinary.TheVariants as binary
use Rattle.scc_svtree.specs.Sizes.{Sized, fixed, sized}
use Rattle.scc_lower_spec.specs.Gives.{Gives}
use Rattle.scc_lower_spec.specs.Conversion.{takes_own_size, widened, resized, converted_term}
use Rattle.scc_lower_spec.proofs.Gives.{gives_fixed, gives_sign, gives_compare, gives_narrow, gives_wide, steady}

module _ (wide : Bool) (width x : ℕ → ℕ) where
  abbrev of : Term → Sized
  of t = sized wide width x t

  -- zeros in front
  pub widened_gives : (w v : ℕ) (t : Term) (y : ℕ) → w ≤ v → y < 2 ^ w → Gives false (of t) w y → Gives false (of (widened v t)) v (low v (pos y))
  widened_gives w v t y p h g = by (takes_own_size t) refl
    where
      by : (q : Bool) → takes_own_size t ≡ q → Gives false (of (if q then Cast v t else Cast v (Sign false t))) v (low v (pos y))
      by true e = gives_wide false wide (of t) w v y p g (steady wide width x t false w y e g)
      by false e =
          let n = gives_sign false false (of t) w y h g in
          gives_wide false wide (of (Sign false t)) w v y p n (steady wide width x (Sign false t) false w y refl n)

  -- the low bits of a word of w bits are those of its number
  cut : (s : Bool) (v w y : ℕ) → v ≤ w → y < 2 ^ w → low v (pos y) ≡ low v (reading s w y)
  cut s v w y p h = ap (λ n. low v (pos n)) (sym (low_reading s w y h)) ∙ low_low v w (reading s w y) p

  pub resized_gives : (from to : Kind) (t : Term) (y : ℕ) → Fits from y → Gives false (of t) (width_of from) y → Gives false (of (resized from to t)) (width_of to) (low (width_of to) (number_of from y))
  resized_gives from to t y h g = by (nat_eq (width_of to) (width_of from)) (nat_lt (width_of to) (width_of from)) (is_signed from) refl refl refl
    where
      by : (p q r : Bool) → nat_eq (width_of to) (width_of from) ≡ p → nat_lt (width_of to) (width_of from) ≡ q → is_signed from ≡ r → Gives false (of (if p then t else (if q then Cast (width_of to) t else (if r then Sign false (Cast (width_of to) (Sign true t)) else widened (width_of to) t)))) (width_of to) (low (width_of to) (number_of from y))
      by true q r a b c =
          let d : width_of from ≡ width_of to = grind arith in
          let k : low (width_of from) (number_of from y) ≡ y = low_reading (is_signed from) (width_of from) y h in
          subst (λ w. Gives false (of t) w (low w (number_of from y))) d (g.0, g.1, g.2 ∙ sym k)
      by false true r a b c =
          let p : width_of to ≤ width_of from = grind arith in
          let n = gives_narrow false wide (of t) (width_of from) (width_of to) y p g in
          (n.0, n.1, n.2 ∙ cut (is_signed from) (width_of to) (width_of from) y p h)
      by false false true a b c =
          let v = width_of to in
          let w = width_of from in
          let p : w ≤ v = grind arith in
          let r = gives_sign false true (of t) w y h g in
          let n = gives_wide true wide (of (Sign true t)) w v y p r (steady wide width x (Sign true t) true w y refl r) in
          let m = gives_sign true false (of (Cast v (Sign true t))) v (low v (reading true w y)) (low_less v (reading true w y)) n in
          (m.0, m.1, m.2 ∙ ap (λ s. low v (reading s w y)) (sym c))
      by false false false a b c =
          let v = width_of to in
          let w = width_of from in
          let p : w ≤ v = grind arith in
          let n = widened_gives w v t y p h g in
          (n.0, n.1, n.2 ∙ ap (λ s. low v (reading s w y)) (sym c))

  one : (t : Bool) → low 1 (bit t) ≡ (if t then 1 else 0)
  one true = refl
  one false = refl

  same_test : (n : ℕ) → int_eq (pos n) (pos 0) ≡ nat_eq n 0
  same_test n = grind (arith, ints)

  -- whether a word isn't 0
  test_gives : (from : Kind) (t : Term) (y : ℕ) → Fits from y → Gives false (of t) (width_of from) y
      → Gives false (of (Binary binary.Ne t (Literal (width_of from) 0))) 1 (if truth (number_of from y) then 1 else 0)
  test_gives from t y h g =
      let w = width_of from in
      let n = gives_compare false op.Ne (of t) (fixed w false 0) w y 0 g (gives_fixed false w 0 (pow_pos w)) in
      let e : not (int_eq (pos y) (pos 0)) ≡ truth (number_of from y) = ap not (same_test y) ∙ truth_reading (is_signed from) w y h in
      (n.0, n.1, n.2 ∙ one (not (int_eq (pos y) (pos 0))) ∙ ap (λ b. if b then 1 else 0) e)

  bool_kept : (n : ℕ) (b : Bool) → n < 2 → nat_eq n 0 ≡ b → n ≡ (if not b then 1 else 0)
  bool_kept n true h e = grind arith
  bool_kept n false h e = grind arith

  -- a word of `bool` stays
  bool_gives : (from to : Kind) (t : Term) (y : ℕ) → is_bool from ≡ true → is_bool to ≡ true → Fits from y → Gives false (of t) (width_of from) y
      → Gives false (of (resized from to t)) 1 (if truth (number_of from y) then 1 else 0)
  bool_gives from to t y a b h g =
      let f = bool_form from a in
      let w = bool_form to b in
      let same : nat_eq (width_of to) (width_of from) ≡ true = (λ i. nat_eq (w.0 i) (f.0 i)) in
      let small : y < 2 = subst (λ n. y < 2 ^ n) f.0 h in
      let is : y ≡ (if truth (number_of from y) then 1 else 0) = bool_kept y (nat_eq y 0) small refl ∙ ap (λ c. if c then 1 else 0) (truth_reading (is_signed from) (width_of from) y h) in
      let k : Gives false (of t) 1 y = subst (λ n. Gives false (of t) n y) f.0 g in
      subst (λ c. Gives false (of (if c then t else (if nat_lt (width_of to) (width_of from) then Cast (width_of to) t
      else (if is_signed from then Sign false (Cast (width_of to) (Sign true t)) else widened (width_of to) t)))) 1 (if truth (number_of from y) then 1 else 0)) (sym same) (k.0, k.1, k.2 ∙ is)

  pub converted_gives : (from to : Kind) (t : Term) (y : ℕ) → Fits from y → Gives false (of t) (width_of from) y → Gives false (of (converted_term from to t)) (width_of to) (stored to (number_of from y))
  converted_gives from to t y h g = by (is_bool to) (is_bool from) refl refl
    where
      by : (p q : Bool) → is_bool to ≡ p → is_bool from ≡ q
          → Gives false (of (if p && not q then Binary binary.Ne t (Literal (width_of from) 0) else resized from to t)) (width_of to) (if p then (if truth (number_of from y) then 1 else 0) else low (width_of to) (number_of from y))
      by false q a b = resized_gives from to t y h g
      by true false a b = subst (λ n. Gives false (of (Binary binary.Ne t (Literal (width_of from) 0))) n (if truth (number_of from y) then 1 else 0)) (sym (bool_form to a).0) (test_gives from t y h g)
      by true true a b = subst (λ n. Gives false (of (resized from to t)) n (if truth (number_of from y) then 1 else 0)) (sym (bool_form to a).0) (bool_gives from to t y b a h g)
