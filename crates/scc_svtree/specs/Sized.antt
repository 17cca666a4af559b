-- Expressions without wrong sizes.
use Rattle.std.specs.Prelude.{ℕ, ◌+◌, ◌^◌, ◌<◌, ◌≤◌, true, List, [], ◌∷◌}
use Rattle.scc_svtree.specs.declared.expr.SvLeft.{SvLeft}
use Rattle.scc_svtree.specs.declared.expr.SvLeft.TheVariants.{Whole, Bit, Range}
use Rattle.scc_bits_kinds.specs.declared.op.Op.{Op}
use Rattle.scc_bits_kinds.specs.declared.op.Op.TheVariants as op
use Rattle.scc_svtree.specs.declared.class.Class.{Class}
use Rattle.scc_svtree.specs.declared.class.Class.TheVariants.{Context}
use Rattle.scc_svtree.specs.Classes.{class_of}
use Rattle.scc_svtree.specs.Term.{Term, Literal, Part, Unary, Binary, Cond, Join, Cast, Sign}
use Rattle.scc_svtree.specs.Sizes.{length_of}
use Rattle.scc_svtree.specs.Variables.{IsWidth}

-- A select lies inside its variable, which has more than one bit (11.5.1).
abbrev pub IsSelect : (ℕ → ℕ) → SvLeft → Type 0
IsSelect width (Whole v) = IsWidth (width v.0)
IsSelect width (Bit v at) = (at < width v.0) × (2 ≤ width v.0) × (width v.0 ≤ 128)
IsSelect width (Range v h l) = (l < h) × (h < width v.0) × (width v.0 ≤ 128)

-- a literal other than 0
abbrev pub IsNonzero : Term → Type 0
IsNonzero (Literal w v) = 0 < v
IsNonzero _ = ⊥

-- a right operand of `/` or `%`: such a literal, maybe behind `$signed`
abbrev pub IsDivisor : Term → Type 0
IsDivisor (Sign true e) = IsNonzero e
IsDivisor e = IsNonzero e

abbrev pub TakesDivisor : Op → Term → Type 0
TakesDivisor op.Div b = IsDivisor b
TakesDivisor op.Rem b = IsDivisor b
TakesDivisor _ b = Unit {0}

abbrev pub HasDivisor : Class → Term → Type 0
HasDivisor (Context o) b = TakesDivisor o b
HasDivisor _ b = Unit {0}

-- Every literal fits its width, every select its variable; every width, cast and length is 1 to 128; no divisor is 0.
abbrev pub IsSized : (ℕ → ℕ) → Term → Type 0
IsSized width (Literal w v) = IsWidth w × (v < 2 ^ w)
IsSized width (Part l) = IsSelect width l
IsSized width (Unary o a) = IsSized width a
IsSized width (Binary o a b) = IsSized width a × IsSized width b × HasDivisor (class_of o) b
IsSized width (Cond c a b) = IsSized width c × IsSized width a × IsSized width b
IsSized width (Join a b) = IsSized width a × IsSized width b × (length_of width a + length_of width b ≤ 128)
IsSized width (Cast w e) = IsWidth w × IsSized width e
IsSized width (Sign s e) = IsSized width e

abbrev pub AllSized : (ℕ → ℕ) → List Term → Type 0
AllSized width [] = Unit {0}
AllSized width (t ∷ ts) = IsSized width t × AllSized width ts

-- the length of a concatenation of these parts
abbrev pub total_length : (ℕ → ℕ) → List Term → ℕ
total_length width [] = 0
total_length width (t ∷ ts) = length_of width t + total_length width ts
