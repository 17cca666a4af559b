use Rattle.std.proofs.Common.{sym, ◌∙◌}
use Rattle.scc_lower_expressions.specs.Becoming.{given_of}
use Rattle.scc_lower.proofs.Taking.{bit-told}
use Rattle.scc_lower.proofs.assign.bit_taken.Goals as goal

pub returns-in-Some : goal.returns-in-Some
returns-in-Some c = bit-told (given_of c.args.cells) c.args.at.now c.args.all c.in-Some.v c.number_taken.result (sym c.value.ensures.known ∙ c.in-Some.is) c.number_taken.ensures
