use Rattle.std.proofs.Common.{ap, ◌∙◌, false}
use Rattle.scc_reading.specs.Reading.{and_then, pure}
use Rattle.scc_grammar_spec.specs.ParseExpressions as e
use Rattle.scc_grammar_spec.specs.ParseItems.{params_by}
use Rattle.scc_grammar_sound.proofs.Loops.{fails_through}
use Rattle.scc_grammar_declarations.proofs.TemplateLoop.{params_from}
use Rattle.scc_grammar_declarations.proofs.template.params.Goals as goal
use Rattle.std.proofs.lemmas.Result.{err_from_is_err_and}

pub returns-in_err-rest : goal.returns-in_err-rest
returns-in_err-rest c =
    let p = err_from_is_err_and c.from_residual-in_err-rest.result c.from_residual-in_err-rest.ensures.1 in
    rw (p.1, p.2, params_from c.args.levels c.args.names.now c.args.ts.now c.in_ok-first.first (params_by c.param.new.names c.in_ok-first.closed) c.in_ok-first.rest.now c.in_ok-found-2.found (params_by c.more_params.new.names c.in_ok-found-2.closed) c.in_ok-found-2.rest.now c.in_ok-first.ensures (rw c.in_ok-found.ensures at c.in_ok-found-2.ensures))
    (fails_through c.in_err-rest.field-0.0 (e.close_unless c.in_ok-found-2.closed false c.in_ok-found-2.rest.now) _ (λ f k. ap (λ o. and_then o (λ _. pure (c.more_params.new.names, c.in_ok-found-2.found))) k) c.in_err-rest.ensures)

pub returns : goal.returns
returns c = params_from c.args.levels c.args.names.now c.args.ts.now c.in_ok-first.first (params_by c.param.new.names c.in_ok-first.closed) c.in_ok-first.rest.now c.in_ok-found-2.found (params_by c.more_params.new.names c.in_ok-found-2.closed) c.in_ok-found-2.rest.now c.in_ok-first.ensures (rw c.in_ok-found.ensures at c.in_ok-found-2.ensures)
    ∙ ap (λ o. and_then o (λ _. pure (c.more_params.new.names, c.in_ok-found-2.found))) c.in_ok-rest.ensures
