use Rattle.std.proofs.Common.{◌≡◌, sym, ◌∙◌}
use Rattle.std.proofs.lemmas.Result.{IfOk-weaker}
use Rattle.scc_svtree.specs.declared.expr.SvExpr.{SvExpr}
use Rattle.scc_svtree.specs.Term.{term_of}
use Rattle.scc_lower_expressions.specs.Becoming.{outcome_of}
use Rattle.scc_lower_expressions.specs.Lowered.{text_of}
use Rattle.scc_lower_expressions.proofs.Outcomes.{text-same}
use Rattle.scc_lower.specs.Texts.{IsTextOf}
use Rattle.scc_lower.proofs.stmt.lowered_expr.Goals as goal

pub returns : goal.returns
returns c =
    let x = c.in_ok-x.x in
    let P : SvExpr → Type 0 = λ t. term_of t ≡ text_of x in
    let Q : SvExpr → Type 0 = λ t. IsTextOf c.args.cells c.args.e.now c.args.cx.now t c.lowered.new.cx in
    IfOk-weaker c.expression.result P Q (λ t h. record { outcome = outcome_of x; becomes = c.in_ok-x.ensures; text = h ∙ sym (text-same x) }) c.expression.ensures
