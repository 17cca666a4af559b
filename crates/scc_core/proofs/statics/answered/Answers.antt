use Rattle.std.proofs.Common.{◌≡◌, refl, Some, true, false, ap, ◌∙◌}
use Rattle.scc_core.proofs.Numbers.{answer_ok, answer_err}
use Rattle.scc_core.proofs.statics.answered.Goals as goal

pub returns-in-Ok : goal.returns-in-Ok
returns-in-Ok c =
    let t = c.in-Ok.ensures.is.0 refl in
    ap Some c.word.ensures.word ∙ answer_ok c.args.op c.args.a c.args.b c.in-Ok.v.word c.in-Ok.ensures.word t.1 t.2

pub returns-in-Err : goal.returns-in-Err
returns-in-Err c = answer_err c.args.op c.args.a c.args.b (λ t. let p : false ≡ true = c.in-Err.ensures.is.1 t in cc p)
