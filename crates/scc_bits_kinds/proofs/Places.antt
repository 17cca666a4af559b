-- The places of rows in the operator table.
use Rattle.std.specs.Prelude.{◌≡◌}
use Rattle.std.proofs.Common.{refl}
use denote.Enum.Declared.{tag_of}
use Rattle.scc_bits_kinds.specs.contracts.op.Op.{the_type as the_op}
use Rattle.scc_bits_kinds.specs.contracts.group.Group.{the_type as the_group}
use Rattle.scc_bits_kinds.specs.declared.op.Op.{Op}
use Rattle.scc_bits_kinds.specs.declared.op.Op.TheVariants as op
use Rattle.scc_bits_kinds.specs.declared.group.Group.{Group}
use Rattle.scc_bits_kinds.specs.declared.group.Group.TheVariants as group
use Rattle.scc_bits_kinds.specs.Rows.{op_place, group_place}

pub op_tag : (o : Op) → tag_of the_op o ≡ op_place o
op_tag op.Add = refl
op_tag op.Sub = refl
op_tag op.Mul = refl
op_tag op.Div = refl
op_tag op.Rem = refl
op_tag op.And = refl
op_tag op.Or = refl
op_tag op.Xor = refl
op_tag op.Eq = refl
op_tag op.Ne = refl
op_tag op.Lt = refl
op_tag op.Le = refl
op_tag op.Gt = refl
op_tag op.Ge = refl
op_tag op.Shl = refl
op_tag op.Shr = refl
op_tag op.LogAnd = refl
op_tag op.LogOr = refl
op_tag op.Plus = refl
op_tag op.Neg = refl
op_tag op.Not = refl
op_tag op.LogNot = refl
op_tag op.AndReduce = refl
op_tag op.OrReduce = refl
op_tag op.XorReduce = refl

pub group_tag : (g : Group) → tag_of the_group g ≡ group_place g
group_tag group.Bool = refl
group_tag group.Native = refl
group_tag group.Int = refl
group_tag group.Uint = refl
group_tag group.Big = refl
group_tag group.BigInt = refl
group_tag group.Bv = refl
group_tag group.Wide = refl
