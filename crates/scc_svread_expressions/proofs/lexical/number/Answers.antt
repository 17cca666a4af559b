use Rattle.std.proofs.Common.{◌-◌, ◌^◌, arith}
use Rattle.scc_svread_grammar.proofs.Lengths.{number_step, number_end}
use Rattle.scc_svread_expressions.proofs.lexical.number.Goals as goal

pub loop-b-preserved : goal.loop-b-preserved
loop-b-preserved c =
    (number_step (2 ^ 128 - 1) c.loop-b.n c.loop-b.b-index c.appended-n.result _ c.args.digits.now c.loop-b-test.true c.appended-n.ensures c.loop-b.invariant.0, omega (arith, c.appended-n.type_inv))

pub returns : goal.returns
returns c = number_end (2 ^ 128 - 1) c.loop-b.n c.loop-b.b-index _ c.args.digits.now c.loop-b-test.false c.loop-b.invariant.1 c.loop-b.invariant.0
