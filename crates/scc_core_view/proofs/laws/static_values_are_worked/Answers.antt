use Rattle.std.proofs.Common.{Some, option_and_then, ap, ◌∙◌}
use Rattle.scc_bits_kinds.specs.declared.op.Op.TheVariants as op
use Rattle.scc_core.specs.Elements.{fixed}
use Rattle.scc_core.specs.Names.{behind}
use Rattle.scc_core.specs.Numbers.{valued, answer, small, bit}
use Rattle.scc_core.specs.Statics.{static_of, operated}
use Rattle.scc_core_view.specs.WorkedStatic.{int, long}
use Rattle.scc_core_view.proofs.StaticWorked.{bit_is, element_is, sum_is}
use Rattle.scc_core_view.proofs.laws.static_values_are_worked.Goals as goal

pub returns-clause-bit : goal.returns-clause-bit
unfolding static_of fixed valued small bit
returns-clause-bit c = bit_is 3

pub returns-clause-past_bit : goal.returns-clause-past_bit
unfolding static_of fixed valued small bit
returns-clause-past_bit c = bit_is 9

pub returns-clause-element : goal.returns-clause-element
unfolding static_of fixed behind valued small
returns-clause-element c = element_is 1

pub returns-clause-past_element : goal.returns-clause-past_element
unfolding static_of fixed behind valued small
returns-clause-past_element c = element_is 2

pub returns-clause-sum : goal.returns-clause-sum
unfolding static_of fixed behind valued small answer
returns-clause-sum c = sum_is 1 ∙ ap (λ o. option_and_then (λ x. operated long op.Add x (Some (valued int 2))) o) (element_is 1)
