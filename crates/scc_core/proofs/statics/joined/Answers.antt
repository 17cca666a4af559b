use Rattle.std.proofs.Common.{◌≡◌, refl, true, false}
use Rattle.scc_core.proofs.Numbers.{above_ok, above_err}
use Rattle.scc_core.proofs.statics.joined.Goals as goal

pub returns-in-Ok : goal.returns-in-Ok
returns-in-Ok c = above_ok c.args.high c.args.low c.in-Ok.v (c.in-Ok.ensures.is.0 refl).0 c.in-Ok.ensures.kind c.in-Ok.ensures.word

pub returns-in-Err : goal.returns-in-Err
returns-in-Err c = above_err c.args.high c.args.low (λ t. let p : false ≡ true = c.in-Err.ensures.is.1 t in cc p)
