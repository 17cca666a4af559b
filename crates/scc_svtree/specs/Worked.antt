-- Values worked by hand from IEEE 1800-2017, 11.6: a is ff and b is 01, both of 8 bits; c is 000, of 9 bits.
use Rattle.std.specs.Prelude.{ℕ, zero, suc}
use Rattle.scc_svtree.specs.declared.expr.SvBinary.TheVariants.{Add}
use Rattle.scc_svtree.specs.declared.expr.SvLeft.TheVariants.{Whole}
use Rattle.scc_svtree.specs.Term.{Term, Part, Binary}

abbrev pub variable : ℕ → Term
variable v = Part (Whole (record { 0 = v }))

abbrev pub width : ℕ → ℕ
width zero = 8
width (suc zero) = 8
width (suc (suc v)) = 9

abbrev pub word : ℕ → ℕ
word zero = 255
word (suc zero) = 1
word (suc (suc v)) = 0

abbrev pub a_plus_b : Term
a_plus_b = Binary Add (variable 0) (variable 1)
