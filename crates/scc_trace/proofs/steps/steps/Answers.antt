use Rattle.std.proofs.Common.{sym, ◌∙◌, ap}
use Rattle.std.proofs.lemmas.Result.{err_from_is_err_and}
use Rattle.std.proofs.lemmas.Bool.{eqb-true}
use Rattle.scc_trace.specs.Spans.{lines_in}
use Rattle.scc_trace.specs.Stimulus.{step_of, widths_of}
use Rattle.scc_trace.specs.Stimulus.{each_line}
use Rattle.scc_trace.proofs.Turns.{put_front, lines_more, lines_fail, lines_end}
use Rattle.scc_trace.proofs.steps.steps.Goals as goal

pub returns-in_err-step : goal.returns-in_err-step
returns-in_err-step c =
    let p = err_from_is_err_and c.from_residual.result c.from_residual.ensures.1 in
    rw (p.1, p.2) (lines_fail _ _ _ _ _ _ c.first_line.ensures.lines c.loop-rest.invariant _ c.in_err-step.ensures)

pub loop-rest-preserved : goal.loop-rest-preserved
loop-rest-preserved c =
    ap (λ xs. put_front xs (each_line (step_of c.args.file c.args.version (widths_of c.args.ports.now)) (lines_in c.first_line.result.1))) c.in_ok-push.ensures.ok
    ∙ lines_more (step_of c.args.file c.args.version (widths_of c.args.ports.now)) _ _ _ _ _ c.first_line.ensures.lines c.loop-rest.invariant _ c.in_ok-step.ensures

pub returns : goal.returns
returns c = lines_end _ _ _ _ _ (eqb-true _ _ (sym c.is_empty.ensures ∙ c.loop-rest-test.false)) c.loop-rest.invariant
