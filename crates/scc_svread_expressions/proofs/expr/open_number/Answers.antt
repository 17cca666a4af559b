use Rattle.std.proofs.Common.{◌∙◌, sym, refl}
use Rattle.scc_reading.proofs.Complete.{is_deep, is_stuck}
use Rattle.scc_svread_grammar.specs.Reader.{inner}
use Rattle.scc_svread_grammar.specs.Lexical.{is_digit}
use Rattle.scc_svread_expressions.proofs.Turns.{left_number, none_left}
use Rattle.scc_svread_expressions.proofs.expr.open_number.Goals as goal

pub returns-then-levels-gt0 : goal.returns-then-levels-gt0
returns-then-levels-gt0 c = rw (left_number c.args.levels c.args.ts.now c.if-levels-gt0.true) c.number_at.ensures

pub returns-then-begins_digit : goal.returns-then-begins_digit
unfolding inner
returns-then-begins_digit c = (c.args.ts.now, rw (none_left c.args.levels c.if-levels-gt0.false) (is_deep is_digit c.args.ts.now (sym c.begins_digit.ensures ∙ c.if-begins_digit.true)), refl)

pub returns : goal.returns
unfolding inner
returns c = (c.args.ts.now, rw (none_left c.args.levels c.if-levels-gt0.false) (is_stuck is_digit c.args.ts.now (sym c.begins_digit.ensures ∙ c.if-begins_digit.false)), refl)
