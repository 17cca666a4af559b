-- The operator table: which rule an operator has for two groups of kinds, if any.
-- (C++ [expr]; IEEE 1666-2011, 7.2.2, 7.2.8, 7.5, 7.6 and 7.9. What stands of large operands is this project's profile.)
use Rattle.std.specs.Prelude.{Bool, true, false, ◌&&◌, ◌||◌, Option, Some, None, if◌then◌else◌}
use Rattle.scc_bits_kinds.specs.declared.op.Op.{Op}
use Rattle.scc_bits_kinds.specs.declared.op.Op.TheVariants as op
use Rattle.scc_bits_kinds.specs.declared.group.Group.{Group}
use Rattle.scc_bits_kinds.specs.declared.group.Group.TheVariants as group
use Rattle.scc_bits_kinds.specs.declared.rule.Rule.{Rule}
use Rattle.scc_bits_kinds.specs.declared.rule.Rule.TheVariants as rule
use Rattle.scc_bits_kinds.specs.Groups.{is_small, is_large, is_bits}

-- the rule where both operands are small, else where one is large and none a bit vector, else where both are bit vectors
abbrev pub by_groups : Option Rule → Option Rule → Option Rule → Group → Group → Option Rule
by_groups small large bits g h =
    if is_small g && is_small h then small
    else (if is_bits g && is_bits h then bits
    else (if is_bits g || is_bits h then None else large))

-- a shift takes a small amount
abbrev pub by_left : Rule → Rule → Rule → Group → Group → Option Rule
by_left small large bits g h =
    if is_small h then Some (if is_small g then small else (if is_large g then large else bits)) else None

-- a unary operator stands at equal groups
abbrev pub alone : Option Rule → Option Rule → Option Rule → Group → Group → Option Rule
alone small large bits group.Bool group.Bool = small
alone small large bits group.Native group.Native = small
alone small large bits group.Int group.Int = small
alone small large bits group.Uint group.Uint = small
alone small large bits group.Big group.Big = large
alone small large bits group.BigInt group.BigInt = large
alone small large bits group.Wide group.Wide = large
alone small large bits group.Bv group.Bv = bits
alone small large bits _ _ = None

-- the kinds whose bits can be named
abbrev pub has_bits : Group → Bool
has_bits group.Int = true
has_bits group.Uint = true
has_bits group.Big = true
has_bits group.BigInt = true
has_bits group.Bv = true
has_bits _ = false

abbrev pub rule_of : Op → Group → Group → Option Rule
rule_of op.Add g h = by_groups (Some rule.Common) (Some rule.WideSum) None g h
rule_of op.Sub g h = by_groups (Some rule.Common) (Some rule.WideDifference) None g h
rule_of op.Mul g h = by_groups (Some rule.Common) (Some rule.WideProduct) None g h
rule_of op.Div g h = by_groups (Some rule.Common) (Some rule.WideQuotient) None g h
rule_of op.Rem g h = by_groups (Some rule.Common) (Some rule.WideQuotient) None g h
rule_of op.And g h = by_groups (Some rule.Common) (Some rule.WideBits) (Some rule.BitsBoth) g h
rule_of op.Or g h = by_groups (Some rule.Common) (Some rule.WideBits) (Some rule.BitsBoth) g h
rule_of op.Xor g h = by_groups (Some rule.Common) (Some rule.WideBits) (Some rule.BitsBoth) g h
rule_of op.Eq g h = by_groups (Some rule.CommonTest) (Some rule.WideTest) (Some rule.BitsTest) g h
rule_of op.Ne g h = by_groups (Some rule.CommonTest) (Some rule.WideTest) (Some rule.BitsTest) g h
rule_of op.Lt g h = by_groups (Some rule.CommonTest) (Some rule.WideTest) None g h
rule_of op.Le g h = by_groups (Some rule.CommonTest) (Some rule.WideTest) None g h
rule_of op.Gt g h = by_groups (Some rule.CommonTest) (Some rule.WideTest) None g h
rule_of op.Ge g h = by_groups (Some rule.CommonTest) (Some rule.WideTest) None g h
rule_of op.Shl g h = by_left rule.PromotedShift rule.WideLeft rule.BitsShift g h
rule_of op.Shr g h = by_left rule.PromotedShift rule.WideRight rule.BitsShift g h
rule_of op.LogAnd g h = by_groups (Some rule.Logical) None None g h
rule_of op.LogOr g h = by_groups (Some rule.Logical) None None g h
rule_of op.Plus g h = alone (Some rule.Promoted) (Some rule.WideSame) None g h
rule_of op.Neg g h = alone (Some rule.Promoted) (Some rule.WideNegation) None g h
rule_of op.Not g h = alone (Some rule.Promoted) (Some rule.WideComplement) (Some rule.BitsComplement) g h
rule_of op.LogNot g h = alone (Some rule.Logical) None None g h
rule_of op.AndReduce g h = if has_bits g then alone (Some rule.Reduction) (Some rule.Reduction) (Some rule.Reduction) g h else None
rule_of op.OrReduce g h = if has_bits g then alone (Some rule.Reduction) (Some rule.Reduction) (Some rule.Reduction) g h else None
rule_of op.XorReduce g h = if has_bits g then alone (Some rule.Reduction) (Some rule.Reduction) (Some rule.Reduction) g h else None
