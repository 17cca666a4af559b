use Rattle.std.proofs.Common.{◌≡◌, ◌<◌, ◌*◌, SomeIff, subst, sym, ap, ◌∙◌, arith}
use Rattle.std.proofs.lemmas.List.{at_drop_all}
use Rattle.scc_tokens_lexer.specs.Number.{digits_value}
use Rattle.scc_tokens_lexer.proofs.Numbers.{value_at_least}
use Rattle.scc_tokens_lexer.proofs.number.value_of.Goals as goal

pub returns-in_err-checked_mul : goal.returns-in_err-checked_mul
returns-in_err-checked_mul c =
    let v = digits_value c.args.base 0 c.args.digits.now in
    let least = value_at_least c.args.base c.loop-d.value c.args.digits.now c.loop-d.d-index c.requires c.loop-d-test.true in
    subst (λ r. SomeIff r (v < 18446744073709551616) v) (sym c.from_residual.ensures)
    (λ h. c.in_err-checked_mul.ensures
    (subst (λ b. c.loop-d.value * b < 18446744073709551616) (sym c.from.ensures) (omega (arith, least, c.loop-d.invariant.read))))

pub returns-in_err-value : goal.returns-in_err-value
returns-in_err-value c =
    let v = digits_value c.args.base 0 c.args.digits.now in
    let least = value_at_least c.args.base c.loop-d.value c.args.digits.now c.loop-d.d-index c.requires c.loop-d-test.true in
    let product : c.in_ok-checked_mul.field-0 ≡ c.loop-d.value * c.args.base = c.in_ok-checked_mul.ensures.1 ∙ ap (λ b. c.loop-d.value * b) c.from.ensures in
    subst (λ r. SomeIff r (v < 18446744073709551616) v) (sym c.from_residual-in_err-value.ensures)
    (λ h. c.in_err-value.ensures (omega (arith, least, product, c.loop-d.invariant.read, h)))

pub returns : goal.returns
returns c =
    let all = at_drop_all (digits_value c.args.base c.loop-d.value) c.args.digits.now c.loop-d.d-index c.loop-d-test.false in
    (omega (arith, all, c.loop-d.invariant.read, c.loop-d.invariant.fits), omega (arith, all, c.loop-d.invariant.read))
