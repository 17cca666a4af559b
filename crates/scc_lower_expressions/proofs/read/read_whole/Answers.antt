use Rattle.std.proofs.Common.{ℕ, ◌∙◌, map, subst}
use Rattle.std.proofs.lemmas.Result.{IfOk-weaker}
use Rattle.scc_svtree.specs.declared.expr.SvExpr.{SvExpr}
use Rattle.scc_svtree.specs.Term.{term_of}
use Rattle.scc_lower_tree_laws.specs.Choosing.{ReadsElement}
use Rattle.scc_lower_expressions.specs.Becoming.{IsWholeRead, given_of, opened_of, seen_of}
use Rattle.scc_lower_expressions.proofs.read.read_whole.Goals as goal

pub returns : goal.returns
returns c =
    let g = given_of c.args.cells in
    let views = map seen_of c.args.cx.now.views.now in
    let os = map opened_of c.args.opens.now in
    let all = c.in_ok-all.all in
    let P : SvExpr → Type 0 = λ t. ReadsElement g views os c.args.first all.h all.l (term_of t) in
    let Q : SvExpr → Type 0 = λ t. IsWholeRead g views os c.args.first (term_of t) in
    IfOk-weaker c.element.result P Q
    (λ t k. (let R : ℕ → Type 0 = λ l. ReadsElement g views os c.args.first all.h l (term_of t) in record {
      cell = c.in_ok-cell.field-0.now;
      high = all.h;
      stands = c.in_ok-cell.ensures;
      wide = c.in_ok-all.ensures.high ∙ c.width.ensures;
      reads = subst R c.in_ok-all.ensures.low k;
    }))
    c.element.ensures
