-- Words of concatenations.
use Rattle.std.proofs.Common.{◌≡◌, ◌<◌, ◌≤◌, ◌+◌, ◌*◌, ◌^◌, ℕ, Bool, true, false, cond, nat_eq, List, [], ◌∷◌, refl, sym, ap, ◌∙◌, arith, subst}
use Rattle.std.proofs.lemmas.Nat.{pow-add, pow_pos}
use Rattle.std.proofs.Math.Nat.{mul-le-mul_right, le-mul_of_pos_right}
use Rattle.std.proofs.Math.Pow.{pow_mono}
use Rattle.scc_bits_kinds.proofs.Low.{low_less}
use Rattle.scc_svtree.specs.declared.class.Class.TheVariants.{Context, Shift, Comparison, Logical}
use Rattle.scc_svtree.specs.declared.expr.SvLeft.TheVariants.{Whole, Bit, Range}
use Rattle.scc_svtree.specs.declared.expr.SvUnary.TheVariants as unary
use Rattle.scc_svtree.specs.Term.{Term, Literal, Part, Unary, Binary, Cond, Join, Cast, Sign, joined}
use Rattle.scc_svtree.specs.Classes.{class_of}
use Rattle.scc_svtree.specs.Sizes.{sized, fixed, own, sized_class, value_of, length_of}
use Rattle.scc_svtree.specs.Sized.{total_length}
use Rattle.scc_svtree.specs.Joined.{joined_word}
use Rattle.scc_svtree.proofs.Values.{same_length, own_fixed}

-- one part more at the top
pub horner : (b o w l n : ℕ) → (b * 2 ^ l + o) * 2 ^ n + w ≡ b * 2 ^ (l + n) + (o * 2 ^ n + w)
horner b o w l n = let e : 2 ^ (l + n) ≡ 2 ^ l * 2 ^ n = pow-add 2 l n in rw e (omega arith)

-- so there is room for it
pub horner_room : (b o w l n j : ℕ) → (b * 2 ^ l + o) * 2 ^ n + w ≡ j → b * 2 ^ l + o ≤ j
horner_room b o w l n j e = let m : b * 2 ^ l + o ≤ (b * 2 ^ l + o) * 2 ^ n = le-mul_of_pos_right {m = 2 ^ n} (b * 2 ^ l + o) (pow_pos n) in omega arith

module _ (width x : ℕ → ℕ) where
  -- a word in a context of n bits fits them
  pub word_fits : (t : Term) (n : ℕ) (s : Bool) → (sized false width x t).word n s < 2 ^ n
  word_fits (Literal w v) n s = low_less n _
  word_fits (Part (Whole v)) n s = low_less n _
  word_fits (Part (Bit v at)) n s = low_less n _
  word_fits (Part (Range v h l)) n s = low_less n _
  word_fits (Unary unary.Not a) n s = low_less n _
  word_fits (Unary unary.Neg a) n s = low_less n _
  word_fits (Unary unary.LogNot a) n s = low_less n _
  word_fits (Unary unary.And a) n s = low_less n _
  word_fits (Unary unary.Or a) n s = low_less n _
  word_fits (Unary unary.Xor a) n s = low_less n _
  word_fits (Binary o a b) n s = of_class (class_of o)
    where
      of_class : (c : _) → (sized_class c (sized false width x a) (sized false width x b)).word n s < 2 ^ n
      of_class (Context o) = low_less n _
      of_class (Shift o fills) = low_less n _
      of_class (Comparison o) = low_less n _
      of_class (Logical o) = low_less n _
  word_fits (Cond c a b) n s = pick (nat_eq (own (sized false width x c)) 0) (word_fits a n s) (word_fits b n s)
    where
      pick : (t : Bool) → (sized false width x a).word n s < 2 ^ n → (sized false width x b).word n s < 2 ^ n → cond t ((sized false width x b).word n s) ((sized false width x a).word n s) < 2 ^ n
      pick true p q = q
      pick false p q = p
  word_fits (Join a b) n s = low_less n _
  word_fits (Cast w e) n s = low_less n _
  word_fits (Sign t e) n s = low_less n _

  pub value_fits : (t : Term) → value_of width x t < 2 ^ length_of width t
  value_fits t = let P : ℕ → Type 0 = λ n. value_of width x t < 2 ^ n in subst P (same_length width x t) (word_fits t (sized false width x t).len (sized false width x t).signed)

  below_product : (a b p q : ℕ) → a < p → b < q → a * q + b < p * q
  below_product a b p q h k = let m : (a + 1) * q ≤ p * q = mul-le-mul_right {m = a + 1} {n = p} q (omega arith) in omega arith

  pub joined_fits : (ts : List Term) → joined_word width x ts < 2 ^ total_length width ts
  joined_fits [] = omega arith
  joined_fits (t ∷ ts) =
      let P : ℕ → Type 0 = λ n. joined_word width x (t ∷ ts) < n in
      subst P (sym (pow-add 2 (length_of width t) (total_length width ts))) (below_product (value_of width x t) (joined_word width x ts) (2 ^ length_of width t) (2 ^ total_length width ts) (value_fits t) (joined_fits ts))

  pub joined_is : (ts : List Term) → sized false width x (joined ts) ≡ fixed (total_length width ts) false (joined_word width x ts)
  joined_is [] = refl
  joined_is (t ∷ []) =
      let l : (sized false width x t).len ≡ length_of width t + 0 = omega (arith, same_length width x t) in
      let v : value_of width x t ≡ value_of width x t * 2 ^ 0 + 0 = omega arith in
      ap (λ n. fixed n false (value_of width x t)) l ∙ ap (λ u. fixed (length_of width t + 0) false u) v
  joined_is (t ∷ u ∷ more) =
      let rest = joined_is (u ∷ more) in
      let n : ℕ = total_length width (u ∷ more) in
      let w : ℕ = joined_word width x (u ∷ more) in
      ap (λ r. fixed ((sized false width x t).len + r.len) false (value_of width x t * 2 ^ r.len + own r)) rest
      ∙ ap (λ l. fixed (l + n) false (value_of width x t * 2 ^ n + own (fixed n false w))) (same_length width x t)
      ∙ ap (λ v. fixed (length_of width t + n) false (value_of width x t * 2 ^ n + v)) (own_fixed n w (joined_fits (u ∷ more)))

  -- a part more, from the top
  pub joined_step : (bits len word j : ℕ) (t : Term) (ts : List Term) → len ≡ (sized false width x t).len → word ≡ value_of width x t
      → bits * 2 ^ total_length width (t ∷ ts) + joined_word width x (t ∷ ts) ≡ j → (bits * 2 ^ len + word) * 2 ^ total_length width ts + joined_word width x ts ≡ j
  joined_step bits len word j t ts l w e =
      ap (λ n. (bits * 2 ^ n + word) * 2 ^ total_length width ts + joined_word width x ts) (l ∙ same_length width x t)
      ∙ ap (λ o. (bits * 2 ^ length_of width t + o) * 2 ^ total_length width ts + joined_word width x ts) w
      ∙ horner bits (value_of width x t) (joined_word width x ts) (length_of width t) (total_length width ts) ∙ e

  pub joined_room : (bits len word : ℕ) (ts all : List Term) → (bits * 2 ^ len + word) * 2 ^ total_length width ts + joined_word width x ts ≡ joined_word width x all
      → total_length width all ≤ 128 → bits * 2 ^ len + word < 2 ^ 128
  joined_room bits len word ts all e h =
      let a = horner_room bits word (joined_word width x ts) len (total_length width ts) (joined_word width x all) e in
      let b = joined_fits all in
      let p : 2 ^ total_length width all ≤ 2 ^ 128 = pow_mono {i = total_length width all} {j = 128} h in
      omega (arith, a, b, p)
