-- The rows of the operator table, in order.
use Rattle.std.specs.Prelude.{ℕ, ◌+◌, ◌*◌, Bool, true, ◌&&◌, nat_lt, Option, Some, None, List, [], ◌∷◌}
use Rattle.std.specs.List.{flat_map}
use Rattle.scc_bits_kinds.specs.declared.op.Op.{Op}
use Rattle.scc_bits_kinds.specs.declared.op.Op.TheVariants as op
use Rattle.scc_bits_kinds.specs.declared.group.Group.{Group}
use Rattle.scc_bits_kinds.specs.declared.group.Group.TheVariants as group
use Rattle.scc_bits_kinds.specs.declared.rule.Rule.{Rule}
use Rattle.scc_bits_kinds.specs.declared.table.Row.{Row}
use Rattle.scc_bits_kinds.specs.Table.{rule_of}

abbrev pub every_op : List Op
every_op = op.Add ∷ op.Sub ∷ op.Mul ∷ op.Div ∷ op.Rem ∷ op.And ∷ op.Or ∷ op.Xor ∷ op.Eq ∷ op.Ne ∷ op.Lt ∷ op.Le ∷ op.Gt ∷ op.Ge ∷ op.Shl ∷ op.Shr ∷ op.LogAnd ∷ op.LogOr ∷ op.Plus ∷ op.Neg ∷ op.Not ∷ op.LogNot ∷ op.AndReduce ∷ op.OrReduce ∷ op.XorReduce ∷ []

abbrev pub every_group : List Group
every_group = group.Bool ∷ group.Native ∷ group.Int ∷ group.Uint ∷ group.Big ∷ group.BigInt ∷ group.Bv ∷ group.Wide ∷ []

-- the row of an operator and two groups, if there is a rule
abbrev pub row_of : Op → Group → Group → Option Rule → List Row
row_of o g h None = []
row_of o g h (Some r) = record { op = o; left = g; right = h; rule = r } ∷ []

abbrev pub every_row : List Row
every_row = flat_map (λ o. flat_map (λ g. flat_map (λ h. row_of o g h (rule_of o g h)) every_group) every_group) every_op

-- where a row stands: by its operator, its left and its right group
abbrev pub op_place : Op → ℕ
op_place op.Add = 0
op_place op.Sub = 1
op_place op.Mul = 2
op_place op.Div = 3
op_place op.Rem = 4
op_place op.And = 5
op_place op.Or = 6
op_place op.Xor = 7
op_place op.Eq = 8
op_place op.Ne = 9
op_place op.Lt = 10
op_place op.Le = 11
op_place op.Gt = 12
op_place op.Ge = 13
op_place op.Shl = 14
op_place op.Shr = 15
op_place op.LogAnd = 16
op_place op.LogOr = 17
op_place op.Plus = 18
op_place op.Neg = 19
op_place op.Not = 20
op_place op.LogNot = 21
op_place op.AndReduce = 22
op_place op.OrReduce = 23
op_place op.XorReduce = 24

abbrev pub group_place : Group → ℕ
group_place group.Bool = 0
group_place group.Native = 1
group_place group.Int = 2
group_place group.Uint = 3
group_place group.Big = 4
group_place group.BigInt = 5
group_place group.Bv = 6
group_place group.Wide = 7

abbrev pub place : Op → Group → Group → ℕ
place o g h = 64 * op_place o + (8 * group_place g + group_place h)

-- rows in ascending order, without repeats
abbrev pub ascend_from : ℕ → List Row → Bool
ascend_from n [] = true
ascend_from n (r ∷ rs) = let m = place r.op r.left r.right + 1 in nat_lt n m && ascend_from m rs

abbrev pub ascend : List Row → Bool
ascend rows = ascend_from 0 rows
