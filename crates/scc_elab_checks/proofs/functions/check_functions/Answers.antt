use Rattle.std.proofs.Common.{sym, ◌∙◌}
use Rattle.scc_elab_checks.proofs.Numbered.{passed, says_first}
use Rattle.scc_elab_checks.proofs.functions.check_functions.Goals as goal

pub loop-number-preserved : goal.loop-number-preserved
loop-number-preserved c = c.loop-number.invariant ∙ passed c.args.p.now c.loop-number.number c.in-Some.function.now (sym c.in-Some.ensures.element) c.in_default-check_function.ensures

pub returns-in-Err : goal.returns-in-Err
returns-in-Err c = says_first c.args.p.now c.loop-number.number c.in-Some.function.now (sym c.in-Some.ensures.element) c.in-Err.stop c.loop-number.invariant c.in-Err.ensures
