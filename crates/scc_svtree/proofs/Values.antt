-- Lengths, signs and words of terms.
use Rattle.std.proofs.Common.{◌≡◌, ◌<◌, ◌+◌, ◌^◌, max, ℕ, false, ◌&&◌, refl, ap, ◌∙◌}
use Rattle.std.specs.Prelude.{pos}
use Rattle.scc_bits_kinds.specs.Numbers.{low}
use Rattle.scc_bits_kinds.proofs.Low.{low_word}
use Rattle.scc_svtree.specs.declared.expr.SvLeft.TheVariants.{Whole, Bit, Range}
use Rattle.scc_svtree.specs.declared.expr.SvUnary.TheVariants as unary
use Rattle.scc_svtree.specs.declared.expr.SvBinary.TheVariants as binary
use Rattle.scc_svtree.specs.Term.{Term, Literal, Part, Unary, Binary, Cond, Join, Cast, Sign}
use Rattle.scc_svtree.specs.Sizes.{sized, own, fixed, length_of, signed_of}

pub low_of_fit : (w x : ℕ) → x < 2 ^ w → low w (pos x) ≡ x
low_of_fit w x h = low_word w x h

pub own_fixed : (w v : ℕ) → v < 2 ^ w → own (fixed w false v) ≡ v
own_fixed w v h = ap (λ u. low w (pos u)) (low_word w v h) ∙ low_word w v h

module _ (width x : ℕ → ℕ) where
  -- words have no influence on lengths and signs
  pub same_length : (t : Term) → (sized false width x t).len ≡ length_of width t
  same_length (Literal w v) = refl
  same_length (Part (Whole v)) = refl
  same_length (Part (Bit v at)) = refl
  same_length (Part (Range v h l)) = refl
  same_length (Unary unary.Not a) = same_length a
  same_length (Unary unary.Neg a) = same_length a
  same_length (Unary unary.LogNot a) = refl
  same_length (Unary unary.And a) = refl
  same_length (Unary unary.Or a) = refl
  same_length (Unary unary.Xor a) = refl
  same_length (Binary o a b) = both o (same_length a) (same_length b)
    where
      both : (o : _) → (sized false width x a).len ≡ length_of width a → (sized false width x b).len ≡ length_of width b → (sized false width x (Binary o a b)).len ≡ length_of width (Binary o a b)
      both binary.Shl p q = p
      both binary.Shr p q = p
      both binary.Sar p q = p
      both binary.Eq p q = refl
      both binary.Ne p q = refl
      both binary.Lt p q = refl
      both binary.Le p q = refl
      both binary.Gt p q = refl
      both binary.Ge p q = refl
      both binary.LogAnd p q = refl
      both binary.LogOr p q = refl
      both binary.Add p q = ap (λ n. max n (sized false width x b).len) p ∙ ap (λ n. max (length_of width a) n) q
      both binary.Sub p q = ap (λ n. max n (sized false width x b).len) p ∙ ap (λ n. max (length_of width a) n) q
      both binary.Mul p q = ap (λ n. max n (sized false width x b).len) p ∙ ap (λ n. max (length_of width a) n) q
      both binary.Div p q = ap (λ n. max n (sized false width x b).len) p ∙ ap (λ n. max (length_of width a) n) q
      both binary.Rem p q = ap (λ n. max n (sized false width x b).len) p ∙ ap (λ n. max (length_of width a) n) q
      both binary.And p q = ap (λ n. max n (sized false width x b).len) p ∙ ap (λ n. max (length_of width a) n) q
      both binary.Or p q = ap (λ n. max n (sized false width x b).len) p ∙ ap (λ n. max (length_of width a) n) q
      both binary.Xor p q = ap (λ n. max n (sized false width x b).len) p ∙ ap (λ n. max (length_of width a) n) q
  same_length (Cond c a b) = ap (λ n. max n (sized false width x b).len) (same_length a) ∙ ap (λ n. max (length_of width a) n) (same_length b)
  same_length (Join a b) = ap (λ n. n + (sized false width x b).len) (same_length a) ∙ ap (λ n. length_of width a + n) (same_length b)
  same_length (Cast w e) = refl
  same_length (Sign s e) = same_length e

  pub same_sign : (t : Term) → (sized false width x t).signed ≡ signed_of t
  same_sign (Literal w v) = refl
  same_sign (Part (Whole v)) = refl
  same_sign (Part (Bit v at)) = refl
  same_sign (Part (Range v h l)) = refl
  same_sign (Unary unary.Not a) = same_sign a
  same_sign (Unary unary.Neg a) = same_sign a
  same_sign (Unary unary.LogNot a) = refl
  same_sign (Unary unary.And a) = refl
  same_sign (Unary unary.Or a) = refl
  same_sign (Unary unary.Xor a) = refl
  same_sign (Binary o a b) = both o (same_sign a) (same_sign b)
    where
      both : (o : _) → (sized false width x a).signed ≡ signed_of a → (sized false width x b).signed ≡ signed_of b → (sized false width x (Binary o a b)).signed ≡ signed_of (Binary o a b)
      both binary.Shl p q = p
      both binary.Shr p q = p
      both binary.Sar p q = p
      both binary.Eq p q = refl
      both binary.Ne p q = refl
      both binary.Lt p q = refl
      both binary.Le p q = refl
      both binary.Gt p q = refl
      both binary.Ge p q = refl
      both binary.LogAnd p q = refl
      both binary.LogOr p q = refl
      both binary.Add p q = ap (λ n. n && (sized false width x b).signed) p ∙ ap (λ n. signed_of a && n) q
      both binary.Sub p q = ap (λ n. n && (sized false width x b).signed) p ∙ ap (λ n. signed_of a && n) q
      both binary.Mul p q = ap (λ n. n && (sized false width x b).signed) p ∙ ap (λ n. signed_of a && n) q
      both binary.Div p q = ap (λ n. n && (sized false width x b).signed) p ∙ ap (λ n. signed_of a && n) q
      both binary.Rem p q = ap (λ n. n && (sized false width x b).signed) p ∙ ap (λ n. signed_of a && n) q
      both binary.And p q = ap (λ n. n && (sized false width x b).signed) p ∙ ap (λ n. signed_of a && n) q
      both binary.Or p q = ap (λ n. n && (sized false width x b).signed) p ∙ ap (λ n. signed_of a && n) q
      both binary.Xor p q = ap (λ n. n && (sized false width x b).signed) p ∙ ap (λ n. signed_of a && n) q
  same_sign (Cond c a b) = ap (λ n. n && (sized false width x b).signed) (same_sign a) ∙ ap (λ n. signed_of a && n) (same_sign b)
  same_sign (Join a b) = refl
  same_sign (Cast w e) = same_sign e
  same_sign (Sign s e) = refl
