use Rattle.std.proofs.Common.{◌≡◌, List, Option, None, subst, sym}
use Rattle.scc_core.specs.Located.{named_in}
use Rattle.scc_svtree.specs.declared.stmt.SvStmt.{SvStmt}
use Rattle.scc_svtree.specs.Code.{code_of}
use Rattle.scc_lower_tree_laws.specs.Assigning.{Assigning}
use Rattle.scc_lower_tree_laws.proofs.Assigning.{assigning-nowhere}
use Rattle.scc_lower_expressions.specs.declared.place.Found.{Found}
use Rattle.scc_lower_expressions.specs.Becoming.{IsLocated, given_of, state_of}
use Rattle.scc_lower.proofs.assign.assigned.Goals as goal

pub returns-in-None : goal.returns-in-None
returns-in-None c =
    let g = given_of c.args.cells in
    let l = c.args.left.now in
    let e = c.args.value.now in
    let a = state_of c.args.cx.now in
    let L : Option Found → Type 0 = λ o. IsLocated g l o in
    let none : named_in g.known l ≡ None = subst L c.in-None.is c.in_ok-found.ensures in
    let S : List SvStmt → Type 0 = λ ss. Assigning g l e a (code_of ss) a in
    subst S (sym c.new.ensures.empty) (assigning-nowhere g l e a none)
