-- An operator on two constants in the kinds in which they count. This project's own.
use Rattle.std.specs.Prelude.{Some, if◌then◌else◌}
use Rattle.scc_base.specs.declared.refusal.Place.{Place}
use Rattle.scc_base.specs.declared.code.Code.TheVariants as reason
use Rattle.scc_bits_kinds.specs.declared.op.Op.{Op}
use Rattle.scc_bits.specs.Value.{Number}
use Rattle.scc_templates_spec.specs.Walked.{Walked, pure, fault}
use Rattle.scc_plain_spec.specs.Numbers.{by_table, divides, answered}

abbrev pub taken : Place → Op → Number → Number → Walked Number
taken p o a b = by_table p o a.kind b.kind (λ k. if divides o (Some b) then pure (answered o k a b) else fault reason.Divisor p)
