-- A concatenation, part by part.
use Rattle.std.proofs.Common.{◌≡◌, ◌≤◌, ◌+◌, ℕ, List, [], ◌∷◌, false, refl, ap, arith}
use Rattle.scc_svtree.specs.declared.expr.SvLeft.TheVariants.{Whole, Bit, Range}
use Rattle.scc_svtree.specs.declared.expr.SvUnary.TheVariants as unary
use Rattle.scc_svtree.specs.declared.expr.SvBinary.TheVariants as binary
use Rattle.scc_svtree.specs.Term.{Term, Literal, Part, Unary, Binary, Cond, Join, Cast, Sign, joined}
use Rattle.scc_svtree.specs.Sizes.{length_of, signed_of}
use Rattle.scc_svtree.specs.Sized.{IsSized, AllSized, total_length}
use Rattle.scc_svtree.specs.Variables.{IsWidth}

pub joined_parts : (width : ℕ → ℕ) (ts : List Term) → IsSized width (joined ts) → AllSized width ts
joined_parts width [] h = tt
joined_parts width (t ∷ []) h = (h, tt)
joined_parts width (t ∷ u ∷ more) h = (h.0, joined_parts width (u ∷ more) h.1)

pub joined_long : (width : ℕ → ℕ) (ts : List Term) → length_of width (joined ts) ≡ total_length width ts
joined_long width [] = refl
joined_long width (t ∷ []) = omega arith
joined_long width (t ∷ u ∷ more) = ap (λ n. length_of width t + n) (joined_long width (u ∷ more))

-- every length of an expression without wrong sizes is 1 to 128
pub width_of_sized : (width : ℕ → ℕ) (t : Term) → IsSized width t → IsWidth (length_of width t)
width_of_sized width (Literal w v) h = h.0
width_of_sized width (Part (Whole v)) h = h
width_of_sized width (Part (Bit v at)) h = (omega arith, omega arith)
width_of_sized width (Part (Range v i j)) h = (omega arith, omega (arith, h.0, h.1, h.2))
width_of_sized width (Unary unary.Not a) h = width_of_sized width a h
width_of_sized width (Unary unary.Neg a) h = width_of_sized width a h
width_of_sized width (Unary unary.LogNot a) h = (omega arith, omega arith)
width_of_sized width (Unary unary.And a) h = (omega arith, omega arith)
width_of_sized width (Unary unary.Or a) h = (omega arith, omega arith)
width_of_sized width (Unary unary.Xor a) h = (omega arith, omega arith)
width_of_sized width (Binary o a b) h = binary_width o (width_of_sized width a h.0) (width_of_sized width b h.1)
  where
    binary_width : (o : _) → IsWidth (length_of width a) → IsWidth (length_of width b) → IsWidth (length_of width (Binary o a b))
    binary_width binary.Shl ha hb = ha
    binary_width binary.Shr ha hb = ha
    binary_width binary.Sar ha hb = ha
    binary_width binary.Eq ha hb = (omega arith, omega arith)
    binary_width binary.Ne ha hb = (omega arith, omega arith)
    binary_width binary.Lt ha hb = (omega arith, omega arith)
    binary_width binary.Le ha hb = (omega arith, omega arith)
    binary_width binary.Gt ha hb = (omega arith, omega arith)
    binary_width binary.Ge ha hb = (omega arith, omega arith)
    binary_width binary.LogAnd ha hb = (omega arith, omega arith)
    binary_width binary.LogOr ha hb = (omega arith, omega arith)
    binary_width binary.Add ha hb = (omega (arith, ha.0), omega (arith, ha.1, hb.1))
    binary_width binary.Sub ha hb = (omega (arith, ha.0), omega (arith, ha.1, hb.1))
    binary_width binary.Mul ha hb = (omega (arith, ha.0), omega (arith, ha.1, hb.1))
    binary_width binary.Div ha hb = (omega (arith, ha.0), omega (arith, ha.1, hb.1))
    binary_width binary.Rem ha hb = (omega (arith, ha.0), omega (arith, ha.1, hb.1))
    binary_width binary.And ha hb = (omega (arith, ha.0), omega (arith, ha.1, hb.1))
    binary_width binary.Or ha hb = (omega (arith, ha.0), omega (arith, ha.1, hb.1))
    binary_width binary.Xor ha hb = (omega (arith, ha.0), omega (arith, ha.1, hb.1))
width_of_sized width (Cond c a b) h =
    let ha = width_of_sized width a h.1 in
    let hb = width_of_sized width b h.2 in
    (omega (arith, ha.0), omega (arith, ha.1, hb.1))
width_of_sized width (Join a b) h = let ha = width_of_sized width a h.0 in (omega (arith, ha.0), h.2)
width_of_sized width (Cast w e) h = h.0
width_of_sized width (Sign s e) h = width_of_sized width e h

pub joined_short : (width : ℕ → ℕ) (ts : List Term) → IsSized width (joined ts) → total_length width ts ≤ 128
joined_short width ts h = let l = joined_long width ts in let w = width_of_sized width (joined ts) h in omega (arith, l, w.1)

pub joined_unsigned : (ts : List Term) → signed_of (joined ts) ≡ false
joined_unsigned [] = refl
joined_unsigned (t ∷ []) = refl
joined_unsigned (t ∷ u ∷ more) = refl
