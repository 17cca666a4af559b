-- The signs in which an operator on numbers of 128 bits takes its operands.
use Rattle.std.specs.Prelude.{◌≡◌, Bool, ◌&&◌, not, true, false}
use Rattle.std.proofs.Common.{refl}
use Rattle.scc_bits_kinds.specs.declared.op.Op.{Op}
use Rattle.scc_bits_kinds.specs.declared.op.Op.TheVariants as op
use Rattle.scc_bits_kinds.specs.Operators.{Signs}
use Rattle.scc_machine_code.specs.Shifts.{is_shift}

and_true : (s : Bool) → s ≡ (s && true)
and_true true = refl
and_true false = refl

and_false : (s : Bool) → (s && false) ≡ false
and_false true = refl
and_false false = refl

pub signs_of : (o : Op) → (s : Bool) → Signs o s (s && not (is_shift o))
signs_of op.Add s = tt
signs_of op.Sub s = tt
signs_of op.Mul s = tt
signs_of op.Div s = and_true s
signs_of op.Rem s = and_true s
signs_of op.And s = tt
signs_of op.Or s = tt
signs_of op.Xor s = tt
signs_of op.Eq s = and_true s
signs_of op.Ne s = and_true s
signs_of op.Lt s = and_true s
signs_of op.Le s = and_true s
signs_of op.Gt s = and_true s
signs_of op.Ge s = and_true s
signs_of op.Shl s = and_false s
signs_of op.Shr s = and_false s
signs_of op.LogAnd s = tt
signs_of op.LogOr s = tt
signs_of op.Plus s = tt
signs_of op.Neg s = tt
signs_of op.Not s = tt
signs_of op.LogNot s = tt
signs_of op.AndReduce s = tt
signs_of op.OrReduce s = tt
signs_of op.XorReduce s = tt
