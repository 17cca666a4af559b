use Rattle.std.proofs.Common.{◌≡◌, ◌∙◌, length}
use Rattle.std.proofs.lemmas.Result.{IfOk-weaker}
use Rattle.scc_svtree.specs.declared.expr.SvBinary.TheVariants as binary
use Rattle.scc_svtree.specs.declared.expr.SvExpr.{SvExpr}
use Rattle.scc_svtree.specs.Term as emitted
use Rattle.scc_svtree.specs.Term.{term_of}
use Rattle.scc_lower_tree_laws.specs.Stating.{is_leaving}
use Rattle.scc_lower.proofs.Leaves.{is-leaving}
use Rattle.scc_lower.proofs.stmt.leaving_is.Goals as goal

pub returns : goal.returns
returns c =
    let n = length c.args.cells.cells.now in
    let exit = c.args.cx.now.exit in
    let P : SvExpr → Type 0 = λ t. term_of t ≡ emitted.Binary binary.Eq (term_of c.in_ok-var.var) (term_of c.in_ok-number.number) in
    let Q : SvExpr → Type 0 = λ t. term_of t ≡ is_leaving n exit c.args.k in
    IfOk-weaker c.binary.result P Q
    (λ t h. h ∙ is-leaving n exit c.args.k c.in_ok-leaving.field-0.0 c.in_ok-var.var c.in_ok-number.number c.in_ok-leaving.ensures c.in_ok-var.ensures (c.in_ok-number.ensures ∙ (λ i. emitted.Literal exit (c.from.ensures i))))
    c.binary.ensures
