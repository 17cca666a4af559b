use Rattle.std.proofs.Common.{length}
use Rattle.std.proofs.lemmas.Result.{IfOk-weaker}
use Rattle.scc_svtree.specs.Term.{term_of}
use Rattle.scc_lower_laws.specs.Outcome as outcome
use Rattle.scc_lower_tree_laws.specs.Finding.{Indexing, Keeping}
use Rattle.scc_lower_expressions.specs.declared.index.Index.{Index}
use Rattle.scc_lower_expressions.specs.Becoming.{given_of, slot_of, state_of}
use Rattle.scc_lower_expressions.proofs.Leaves.{index-from}
use Rattle.scc_lower_expressions.proofs.index.index_of.Goals as goal

pub returns : goal.returns
returns c = λ e a k h.
    let g = given_of c.args.cells in
    let old = state_of c.args.cx.now in
    let new = state_of c.kept.new.cx in
    let P : Index → Type 0 = λ v. Keeping (length c.args.cells.cells.now) (outcome.Made (term_of c.in_ok-of-2.of)) c.width.result old (slot_of v) new in
    let Q : Index → Type 0 = λ v. Indexing g e a (slot_of v) new in
    IfOk-weaker c.kept.result P Q
    (λ v r. index-from g e a old new c.args.kind c.index_kind-to.result c.width.result c.args.of c.in_ok-of.of (term_of c.in_ok-of-2.of) (slot_of v) k c.index_kind-to.ensures c.width.ensures h c.in_ok-of.ensures c.in_ok-of-2.ensures r)
    c.kept.ensures
