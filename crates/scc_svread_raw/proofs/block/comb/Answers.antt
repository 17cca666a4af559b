use Rattle.std.proofs.Common.{◌∙◌, sym, subst, ap}
use Rattle.std.proofs.lemmas.Result.{err_from_is_err_and}
use Rattle.scc_reading.specs.Reading.{and_then, pure}
use Rattle.scc_svread_grammar.specs.Answer.{Fails}
use Rattle.scc_svread_grammar.specs.declared.raw.RawBlock.TheVariants.{Comb}
use Rattle.scc_svread_raw.proofs.Blanks.{comb_steps, fails_then}
use Rattle.scc_svread_raw.proofs.block.comb.Goals as goal

pub returns-in_err-rest-2 : goal.returns-in_err-rest-2
returns-in_err-rest-2 c =
    let p = err_from_is_err_and c.from_residual-in_err-rest-2.result c.from_residual-in_err-rest-2.ensures.1 in
    let e = comb_steps c.args.levels c.in_ok-rest.field-0-0 c.args.ts.now c.in_ok-rest.rest.now c.in_ok-body.rest.now c.in_ok-body.body c.in_ok-rest.ensures c.in_ok-body.ensures in
    rw (p.1, p.2) (subst (Fails c.in_err-rest-2.field-0.0) (sym e) (fails_then c.in_err-rest-2.field-0.0 _ _ c.in_err-rest-2.ensures))

pub returns : goal.returns
returns c =
    comb_steps c.args.levels c.in_ok-rest.field-0-0 c.args.ts.now c.in_ok-rest.rest.now c.in_ok-body.rest.now c.in_ok-body.body c.in_ok-rest.ensures c.in_ok-body.ensures
    ∙ ap (λ o. and_then o (λ _. pure (Comb c.in_ok-body.body))) c.in_ok-rest-2.ensures
