-- What an operator means for words of two kinds: how each rule takes its operands, and what it answers.
use Rattle.std.specs.Prelude.{ℕ, ◌+◌, Bool, true, false, nat_eq, nat_lt, if◌then◌else◌, Option, Some, None, option_map, option_and_then, unwrap_or}
use Rattle.scc_bits_kinds.specs.declared.op.Op.{Op}
use Rattle.scc_bits_kinds.specs.declared.rule.Rule.{Rule}
use Rattle.scc_bits_kinds.specs.declared.rule.Rule.TheVariants as rule
use Rattle.scc_bits_kinds.specs.declared.kind.Kind.{Kind}
use Rattle.scc_bits_kinds.specs.declared.kind.Kind.TheVariants as kind
use Rattle.scc_bits_kinds.specs.Kinds.{width_of, is_signed, number_of, stored, converted}
use Rattle.scc_bits_kinds.specs.Counts.{promoted, common_of, count_of, some_signed, room, quotient_bits, wide}
use Rattle.scc_bits_kinds.specs.Groups.{group_of}
use Rattle.scc_bits_kinds.specs.Operators.{exact}
use Rattle.scc_bits_kinds.specs.Table.{rule_of}

-- the kind of the answer; bit vectors need equal widths
abbrev pub answer_of : Rule → Kind → Kind → Option Kind
answer_of rule.Common j k = Some (common_of j k)
answer_of rule.CommonTest j k = Some kind.Bool
answer_of rule.Promoted j k = Some (promoted j)
answer_of rule.PromotedShift j k = Some (promoted j)
answer_of rule.Logical j k = Some kind.Bool
answer_of rule.Reduction j k = Some kind.Bool
answer_of rule.WideSum j k = Some (wide (room j k + 1) (some_signed j k))
answer_of rule.WideDifference j k = Some (wide (room j k + 1) true)
answer_of rule.WideProduct j k = Some (wide (count_of j + count_of k) (some_signed j k))
answer_of rule.WideQuotient j k = Some (wide (quotient_bits j k) (some_signed j k))
answer_of rule.WideBits j k = Some (wide (room j k) (some_signed j k))
answer_of rule.WideTest j k = Some kind.Bool
answer_of rule.WideLeft j k = Some (wide 255 (is_signed j))
answer_of rule.WideRight j k = Some (wide (count_of j) (is_signed j))
answer_of rule.WideSame j k = Some (wide (count_of j) (is_signed j))
answer_of rule.WideNegation j k = Some (wide (count_of j + 1) true)
answer_of rule.WideComplement j k = Some (wide (count_of j + (if is_signed j then 0 else 1)) true)
answer_of rule.BitsBoth j k = if nat_eq (width_of j) (width_of k) then Some (kind.Bv (width_of j)) else None
answer_of rule.BitsTest j k = if nat_eq (width_of j) (width_of k) then Some kind.Bool else None
answer_of rule.BitsShift j k = Some (kind.Bv (width_of j))
answer_of rule.BitsComplement j k = Some (kind.Bv (width_of j))

-- a shift's amount is the unsigned reading of its bits
abbrev pub amount_kind : Kind → Kind
amount_kind k = kind.Wide (width_of k) false

-- the kind that the left operand is converted to; its own kind leaves its value as it is
abbrev pub left_of : Rule → Kind → Kind → Kind
left_of rule.Common j k = common_of j k
left_of rule.CommonTest j k = common_of j k
left_of rule.Promoted j k = promoted j
left_of rule.PromotedShift j k = promoted j
left_of rule.Logical j k = kind.Bool
left_of _ j k = j

-- the kind that the right operand is converted to; a unary operator takes none
abbrev pub right_of : Rule → Kind → Kind → Kind
right_of rule.Common j k = common_of j k
right_of rule.CommonTest j k = common_of j k
right_of rule.Logical j k = kind.Bool
right_of rule.PromotedShift j k = amount_kind k
right_of rule.WideLeft j k = amount_kind k
right_of rule.WideRight j k = amount_kind k
right_of rule.BitsShift j k = amount_kind k
right_of _ j k = k

-- where a rule demands at most 128 bits, whether there are more
abbrev pub passes : Rule → Kind → Kind → Bool
passes rule.WideQuotient j k = nat_lt 128 (quotient_bits j k)
passes rule.WideTest j k = nat_lt 128 (room j k)
passes rule.WideRight j k = nat_lt 128 (count_of j)
passes _ j k = false

-- the answer's word, by kinds that the operands are converted to
abbrev pub computed : Op → Kind → Kind → Kind → Kind → ℕ → Kind → ℕ → ℕ
computed o left right answer j x k y = stored answer (exact o (width_of left) (converted left (number_of j x)) (converted right (number_of k y)))

-- ---- an operator and two kinds

abbrev pub rule_at : Op → Kind → Kind → Option Rule
rule_at o j k = rule_of o (group_of j) (group_of k)

-- the kind of an operator's answer, where it has a rule
abbrev pub kind_of : Op → Kind → Kind → Option Kind
kind_of o j k = option_and_then (λ r. answer_of r j k) (rule_at o j k)

-- whether its rule demands at most 128 bits and there are more
abbrev pub is_too_wide : Op → Kind → Kind → Bool
is_too_wide o j k = unwrap_or (option_map (λ r. passes r j k) (rule_at o j k)) false

-- the word of an operator's answer for two words
abbrev pub applied : Op → Kind → ℕ → Kind → ℕ → Option ℕ
applied o j x k y = option_and_then (λ r. option_map (λ answer. computed o (left_of r j k) (right_of r j k) answer j x k y) (answer_of r j k)) (rule_at o j k)
