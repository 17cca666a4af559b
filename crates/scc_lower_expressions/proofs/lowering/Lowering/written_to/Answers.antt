use Rattle.std.proofs.Common.{◌≡◌, Some, ap, ◌∙◌, map, option_map}
use Rattle.std.proofs.lemmas.Option.{slice_get-map}
use Rattle.std.proofs.lemmas.Result.{IfOk-weaker}
use Rattle.scc_svtree.specs.declared.expr.VarId.{VarId}
use Rattle.scc_lower_tree_laws.specs.Assigning.{written_by}
use Rattle.scc_lower_expressions.specs.Becoming.{seen_of}
use Rattle.scc_lower_expressions.specs.Writing.{IsWrittenTo}
use Rattle.scc_lower_expressions.proofs.lowering.Lowering.written_to.Goals as goal

pub returns : goal.returns
returns c =
    let v = c.in_ok-view.field-0 in
    let P : VarId → Type 0 = λ x. written_by (seen_of v) c.args.cell ≡ Some x.0 in
    let Q : VarId → Type 0 = λ x. IsWrittenTo (map seen_of c.args.self.now.views.now) c.args.cell x.0 in
    IfOk-weaker c.written_in.result P Q
    (λ x k. record { view = seen_of v; stands = slice_get-map seen_of c.args.self.now.views.now c.args.cell ∙ ap (option_map seen_of) c.in_ok-view.ensures; to = k })
    c.written_in.ensures
