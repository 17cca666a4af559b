use Rattle.std.proofs.Common.{◌∙◌, sym, refl}
use Rattle.scc_reading.proofs.Complete.{is_deep, is_stuck}
use Rattle.scc_svread_grammar.specs.Reader.{inner, begins_divisor}
use Rattle.scc_svread_expressions.proofs.Turns.{left_divisor, none_left}
use Rattle.scc_svread_expressions.proofs.expr.open_divisor.Goals as goal

pub returns-then-levels-gt0 : goal.returns-then-levels-gt0
returns-then-levels-gt0 c = rw (left_divisor c.args.levels c.args.ts.now c.if-levels-gt0.true) c.divisor_at.ensures

pub returns-then-begins_divisor : goal.returns-then-begins_divisor
unfolding inner
returns-then-begins_divisor c = (c.args.ts.now, rw (none_left c.args.levels c.if-levels-gt0.false) (is_deep begins_divisor c.args.ts.now (sym c.begins_divisor.ensures ∙ c.if-begins_divisor.true)), refl)

pub returns : goal.returns
unfolding inner
returns c = (c.args.ts.now, rw (none_left c.args.levels c.if-levels-gt0.false) (is_stuck begins_divisor c.args.ts.now (sym c.begins_divisor.ensures ∙ c.if-begins_divisor.false)), refl)
