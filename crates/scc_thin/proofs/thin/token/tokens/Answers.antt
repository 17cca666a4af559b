use Rattle.std.proofs.Common.{sym, ◌∙◌}
use Rattle.std.proofs.lemmas.Result.{err_from_is_err_and}
use Rattle.scc_thin.specs.Tokens.{token_of, tokens_of}
use Rattle.scc_thin.proofs.Each.{each_more, each_none, each_over}
use Rattle.scc_thin.proofs.Halts.{fails_along}
use Rattle.scc_thin.proofs.thin.token.tokens.Goals as goal

pub returns-in_err-thin_token : goal.returns-in_err-thin_token
unfolding tokens_of
returns-in_err-thin_token c =
    let p = err_from_is_err_and c.from_residual.result c.from_residual.ensures.1 in
    rw (p.1, p.2) (fails_along _ _ _ (each_none (token_of c.args.names.now) c.args.tokens.now _ _ _ _ c.loop-t.invariant c.loop-t-test.true) c.in_err-thin_token.ensures)

pub loop-t-preserved : goal.loop-t-preserved
loop-t-preserved c = each_more (token_of c.args.names.now) c.args.tokens.now _ _ _ _ _ _ c.loop-t.invariant c.loop-t-test.true c.in_ok-thin_token.ensures c.in_ok-push.ensures.ok

pub returns : goal.returns
unfolding tokens_of
returns c = sym c.loop-t.invariant ∙ each_over (token_of c.args.names.now) c.args.tokens.now _ _ c.loop-t-test.false
