use Rattle.std.proofs.Common.{List, ap, map, subst, sym}
use Rattle.scc_svtree.specs.declared.stmt.SvStmt.{SvStmt}
use Rattle.scc_svtree.specs.Code.{code_of}
use Rattle.scc_lower_tree_laws.specs.Assigning.{Assigning}
use Rattle.scc_lower_expressions.specs.Becoming.{found_of, given_of, seen_of, state_of}
use Rattle.scc_lower.specs.declared.assign.Taken.{Taken}
use Rattle.scc_lower.specs.declared.assign.Taken.TheVariants.{Open, Past, These}
use Rattle.scc_lower.specs.Taking.{IsTaken}
use Rattle.scc_lower.proofs.Taking.{open-pick, past-these, takes-these}
use Rattle.scc_lower.proofs.assign.located.Goals as goal

pub returns-in-These : goal.returns-in-These
returns-in-These c = λ h.
    let g = given_of c.args.cells in
    let l = c.args.left.now in
    let all = c.width-all.result in
    let T : Taken → Type 0 = λ t. IsTaken g l.pick all t in
    let taken : IsTaken g l.pick all (These c.in-These.bits) = subst T c.in-These.is c.in_ok-bits.ensures in
    c.part_assigned.ensures l h (takes-these g l c.args.value.now (found_of c.args.found.now) c.in_ok-cell.field-0.now all h c.in_ok-cell.ensures c.width-all.ensures (map seen_of c.args.cx.now.views.now) c.in-These.bits taken)

pub returns-in-Open : goal.returns-in-Open
returns-in-Open c = λ h.
    let g = given_of c.args.cells in
    let l = c.args.left.now in
    let all = c.width-all.result in
    let T : Taken → Type 0 = λ t. IsTaken g l.pick all t in
    let taken : IsTaken g l.pick all (Open c.in-Open.at) = subst T c.in-Open.is c.in_ok-bits.ensures in
    let p = open-pick g l all c.in-Open.at taken in
    c.bit_assigned.ensures l p.pick p.kind c.in_ok-cell.field-0.now p.is p.at h c.in_ok-cell.ensures c.width-all.ensures

pub returns-in-Past : goal.returns-in-Past
returns-in-Past c = λ h.
    let g = given_of c.args.cells in
    let l = c.args.left.now in
    let e = c.args.value.now in
    let a = state_of c.args.cx.now in
    let all = c.width-all.result in
    let T : Taken → Type 0 = λ t. IsTaken g l.pick all t in
    let taken : IsTaken g l.pick all Past = subst T c.in-Past.is c.in_ok-bits.ensures in
    let S : List SvStmt → Type 0 = λ ss. Assigning g l e a (code_of ss) a in
    subst S (sym c.new.ensures.empty) (past-these g l e (found_of c.args.found.now) c.in_ok-cell.field-0.now all h c.in_ok-cell.ensures c.width-all.ensures a taken)
