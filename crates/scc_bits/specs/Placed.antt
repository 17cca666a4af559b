-- The kinds in which an operator's answer is computed: those that operands of the emitted text have.
-- Where a rule takes the exact values of large operands, they are converted to a kind with room enough for the answer.
use Rattle.std.specs.Prelude.{Option, unwrap_or, option_map, option_and_then}
use Rattle.scc_bits_kinds.specs.declared.op.Op.{Op}
use Rattle.scc_bits_kinds.specs.declared.rule.Rule.{Rule}
use Rattle.scc_bits_kinds.specs.declared.rule.Rule.TheVariants as rule
use Rattle.scc_bits_kinds.specs.declared.kind.Kind.{Kind}
use Rattle.scc_bits.specs.declared.operands.Operands.{Operands}
use Rattle.scc_bits_kinds.specs.Counts.{wide_room}
use Rattle.scc_bits.specs.Values.{answer_of, left_of, right_of, rule_at}

-- the answer's own kind
abbrev pub answer_kind : Rule → Kind → Kind → Kind
answer_kind r j k = unwrap_or (answer_of r j k) j

abbrev pub placed_left : Rule → Kind → Kind → Kind
placed_left rule.WideSum j k = answer_kind rule.WideSum j k
placed_left rule.WideDifference j k = answer_kind rule.WideDifference j k
placed_left rule.WideProduct j k = answer_kind rule.WideProduct j k
placed_left rule.WideQuotient j k = answer_kind rule.WideQuotient j k
placed_left rule.WideBits j k = answer_kind rule.WideBits j k
placed_left rule.WideTest j k = wide_room j k
placed_left rule.WideLeft j k = answer_kind rule.WideLeft j k
placed_left rule.WideRight j k = answer_kind rule.WideRight j k
placed_left rule.WideSame j k = answer_kind rule.WideSame j k
placed_left rule.WideNegation j k = answer_kind rule.WideNegation j k
placed_left rule.WideComplement j k = answer_kind rule.WideComplement j k
placed_left r j k = left_of r j k

abbrev pub placed_right : Rule → Kind → Kind → Kind
placed_right rule.WideSum j k = answer_kind rule.WideSum j k
placed_right rule.WideDifference j k = answer_kind rule.WideDifference j k
placed_right rule.WideProduct j k = answer_kind rule.WideProduct j k
placed_right rule.WideQuotient j k = answer_kind rule.WideQuotient j k
placed_right rule.WideBits j k = answer_kind rule.WideBits j k
placed_right rule.WideTest j k = wide_room j k
placed_right r j k = right_of r j k

-- the kinds to which a rule's operands are converted, and that of its answer, where it has one
abbrev pub placed_of : Rule → Kind → Kind → Option Operands
placed_of r j k = option_map (λ a. record { left = placed_left r j k; right = placed_right r j k; answer = a }) (answer_of r j k)

abbrev pub operands_of : Op → Kind → Kind → Option Operands
operands_of o j k = option_and_then (λ r. placed_of r j k) (rule_at o j k)
