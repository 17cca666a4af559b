use Rattle.std.proofs.Common.{arith}
use Rattle.scc_svread_check.proofs.HexDigits.{hex_step, hex_end}
use Rattle.scc_svread_check.specs.Scope.{greatest}
use Rattle.scc_svread_check.proofs.number.hexadecimal.Goals as goal

pub loop-b-preserved : goal.loop-b-preserved
loop-b-preserved c =
    (hex_step greatest c.loop-b.n c.loop-b.b-index c.with_hex_digit-n.result _ c.args.digits.now c.loop-b-test.true c.with_hex_digit-n.ensures c.loop-b.invariant.0, omega (arith, c.with_hex_digit-n.type_inv))

pub returns : goal.returns
returns c = hex_end greatest c.loop-b.n c.loop-b.b-index _ c.args.digits.now c.loop-b-test.false c.loop-b.invariant.1 c.loop-b.invariant.0
