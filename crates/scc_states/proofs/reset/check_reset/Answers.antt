use Rattle.std.proofs.lemmas.Result.{err_from_is_err_and}
use Rattle.scc_states.proofs.reset.check_reset.Goals as goal

pub returns-in_err-_way-clause-first : goal.returns-in_err-_way-clause-first
returns-in_err-_way-clause-first c = λ cs d l.
    let p = err_from_is_err_and c.from_residual.result c.from_residual.ensures.1 in
    rw (p.1, p.2) (c.in_err-_way.ensures.along cs d l)
