use Rattle.std.proofs.Common.{sym, ◌∙◌}
use Rattle.scc_core_flow.proofs.Sets.{without_slot, without_none}
use Rattle.scc_core_flow.proofs.set.without_bit.Goals as goal

pub returns-then-has_bit : goal.returns-then-has_bit
returns-then-has_bit c = λ i. without_slot c.args.word c.args.slot i (sym c.has_bit.ensures ∙ c.if-has_bit.true)

pub returns-else-has_bit : goal.returns-else-has_bit
returns-else-has_bit c = λ i. without_none c.args.word c.args.slot i (sym c.has_bit.ensures ∙ c.if-has_bit.false)
