-- The text of an operator on operands that are converted to the kinds in which it is computed (IEEE 1800-2017, 11.4; the choice of text is this project's own).
use Rattle.std.specs.Prelude.{Bool, true, false, Option, Some, None, if◌then◌else◌}
use Rattle.scc_bits_kinds.specs.declared.op.Op.{Op}
use Rattle.scc_bits_kinds.specs.declared.op.Op.TheVariants as op
use Rattle.scc_bits_kinds.specs.declared.kind.Kind.{Kind}
use Rattle.scc_bits_kinds.specs.Kinds.{is_signed}
use Rattle.scc_bits.specs.declared.operands.Operands.{Operands}
use Rattle.scc_svtree.specs.declared.expr.SvUnary.{SvUnary}
use Rattle.scc_svtree.specs.declared.expr.SvUnary.TheVariants as unary
use Rattle.scc_svtree.specs.declared.expr.SvBinary.{SvBinary}
use Rattle.scc_svtree.specs.declared.expr.SvBinary.TheVariants as binary
use Rattle.scc_svtree.specs.Term.{Term, Binary, Sign}
use Rattle.scc_lower_spec.specs.Conversion.{converted_term}

-- the operator of the text; a shift of signed numbers to the right fills with the sign
abbrev pub binary_of : Op → Bool → Option SvBinary
binary_of op.Add s = Some binary.Add
binary_of op.Sub s = Some binary.Sub
binary_of op.Mul s = Some binary.Mul
binary_of op.Div s = Some binary.Div
binary_of op.Rem s = Some binary.Rem
binary_of op.And s = Some binary.And
binary_of op.Or s = Some binary.Or
binary_of op.Xor s = Some binary.Xor
binary_of op.Eq s = Some binary.Eq
binary_of op.Ne s = Some binary.Ne
binary_of op.Lt s = Some binary.Lt
binary_of op.Le s = Some binary.Le
binary_of op.Gt s = Some binary.Gt
binary_of op.Ge s = Some binary.Ge
binary_of op.Shl s = Some binary.Shl
binary_of op.Shr true = Some binary.Sar
binary_of op.Shr false = Some binary.Shr
binary_of op.LogAnd s = Some binary.LogAnd
binary_of op.LogOr s = Some binary.LogOr
binary_of _ s = None

-- where operands have signs: which of them are read with a sign, and whether the answer is read without one again
abbrev pub with_signs : Op → SvBinary → Term → Term → Term
with_signs op.Lt o a b = Binary o (Sign true a) (Sign true b)
with_signs op.Le o a b = Binary o (Sign true a) (Sign true b)
with_signs op.Gt o a b = Binary o (Sign true a) (Sign true b)
with_signs op.Ge o a b = Binary o (Sign true a) (Sign true b)
with_signs op.Div o a b = Sign false (Binary o (Sign true a) (Sign true b))
with_signs op.Rem o a b = Sign false (Binary o (Sign true a) (Sign true b))
with_signs op.Shr o a b = Sign false (Binary o (Sign true a) b)
with_signs _ o a b = Binary o a b

abbrev pub operated_term : Op → Bool → SvBinary → Term → Term → Term
operated_term o false text a b = Binary text a b
operated_term o true text a b = with_signs o text a b

-- an operator before its one operand
abbrev pub unary_of : Op → Option SvUnary
unary_of op.Neg = Some unary.Neg
unary_of op.Not = Some unary.Not
unary_of op.LogNot = Some unary.LogNot
unary_of op.AndReduce = Some unary.And
unary_of op.OrReduce = Some unary.Or
unary_of op.XorReduce = Some unary.Xor
unary_of _ = None

abbrev pub is_shift : Op → Bool
is_shift op.Shl = true
is_shift op.Shr = true
is_shift _ = false

-- the operator's text on operands of two kinds; the amount of a shift stands as it is
abbrev pub between : Op → Kind → Kind → Operands → SvBinary → Term → Term → Term
between o j k p text t u = operated_term o (is_signed p.left) text (converted_term j p.left t) (if is_shift o then u else converted_term k p.right u)
