-- How an operator of two operands sizes them (IEEE 1800-2017, table 11-21).
use Rattle.std.specs.Prelude.{true, false}
use Rattle.scc_bits_kinds.specs.declared.op.Op.{Op}
use Rattle.scc_bits_kinds.specs.declared.op.Op.TheVariants as op
use Rattle.scc_svtree.specs.declared.expr.SvBinary.{SvBinary}
use Rattle.scc_svtree.specs.declared.expr.SvBinary.TheVariants as binary
use Rattle.scc_svtree.specs.declared.class.Class.{Class}
use Rattle.scc_svtree.specs.declared.class.Class.TheVariants.{Context, Shift, Comparison, Logical}

abbrev pub class_of : SvBinary → Class
class_of binary.Add = Context op.Add
class_of binary.Sub = Context op.Sub
class_of binary.Mul = Context op.Mul
class_of binary.Div = Context op.Div
class_of binary.Rem = Context op.Rem
class_of binary.And = Context op.And
class_of binary.Or = Context op.Or
class_of binary.Xor = Context op.Xor
class_of binary.Shl = Shift op.Shl false
class_of binary.Shr = Shift op.Shr false
class_of binary.Sar = Shift op.Shr true
class_of binary.Eq = Comparison op.Eq
class_of binary.Ne = Comparison op.Ne
class_of binary.Lt = Comparison op.Lt
class_of binary.Le = Comparison op.Le
class_of binary.Gt = Comparison op.Gt
class_of binary.Ge = Comparison op.Ge
class_of binary.LogAnd = Logical op.LogAnd
class_of binary.LogOr = Logical op.LogOr

abbrev pub IsContext : Op → Type 0
IsContext op.Add = Unit {0}
IsContext op.Sub = Unit {0}
IsContext op.Mul = Unit {0}
IsContext op.Div = Unit {0}
IsContext op.Rem = Unit {0}
IsContext op.And = Unit {0}
IsContext op.Or = Unit {0}
IsContext op.Xor = Unit {0}
IsContext _ = ⊥

abbrev pub IsShift : Op → Type 0
IsShift op.Shl = Unit {0}
IsShift op.Shr = Unit {0}
IsShift _ = ⊥

abbrev pub IsComparison : Op → Type 0
IsComparison op.Eq = Unit {0}
IsComparison op.Ne = Unit {0}
IsComparison op.Lt = Unit {0}
IsComparison op.Le = Unit {0}
IsComparison op.Gt = Unit {0}
IsComparison op.Ge = Unit {0}
IsComparison _ = ⊥

abbrev pub IsLogical : Op → Type 0
IsLogical op.LogAnd = Unit {0}
IsLogical op.LogOr = Unit {0}
IsLogical _ = ⊥

-- the operators that stand in a class
abbrev pub IsOfClass : Class → Type 0
IsOfClass (Context o) = IsContext o
IsOfClass (Shift o fills) = IsShift o
IsOfClass (Comparison o) = IsComparison o
IsOfClass (Logical o) = IsLogical o
