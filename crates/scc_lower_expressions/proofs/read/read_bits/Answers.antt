use Rattle.std.proofs.Common.{Some, map, sym, refl, ◌∙◌}
use Rattle.std.proofs.lemmas.Result.{IfOk-weaker}
use Rattle.scc_core.specs.Numbers.{small}
use Rattle.scc_svtree.specs.declared.expr.SvExpr.{SvExpr}
use Rattle.scc_svtree.specs.Term.{term_of}
use Rattle.scc_lower_tree_laws.specs.Choosing.{ReadsElement}
use Rattle.scc_lower_tree_laws.specs.Finding.{IsKnownBit, Reading}
use Rattle.scc_lower_expressions.specs.Becoming.{given_of, opened_of, state_of}
use Rattle.scc_lower_expressions.proofs.Closed.{closed-range, closed-bit}
use Rattle.scc_lower_expressions.proofs.Shapes.{out-bit, out-range}
use Rattle.scc_lower_expressions.proofs.read.read_bits.Goals as goal

pub returns-in-Range : goal.returns-in-Range
returns-in-Range c = λ l k f a i h o.
    let g = given_of c.args.cells in
    let b = state_of c.args.cx.now in
    let os = map opened_of c.args.opens.now in
    let P : SvExpr → Type 0 = λ t. ReadsElement g b.views os c.args.first c.in-Range.h c.in-Range.l (term_of t) in
    let Q : SvExpr → Type 0 = λ t. Reading g l (Some c.args.pick.now) k a (term_of t) b in
    IfOk-weaker c.element.result P Q
    (λ t w. closed-range g l k f os a b c.args.first (Some c.args.pick.now) (term_of t) c.args.pick.now _ c.in-Range.h c.in-Range.l refl (out-range _ _ _ _ c.in-Range.is) i h o w)
    c.element.ensures

pub returns-in_ok-all-in-Some : goal.returns-in_ok-all-in-Some
returns-in_ok-all-in-Some c = λ l k f a i h o.
    let g = given_of c.args.cells in
    let b = state_of c.args.cx.now in
    let os = map opened_of c.args.opens.now in
    let all = c.in_ok-all-in-Some in
    let P : SvExpr → Type 0 = λ t. IsKnownBit g b.views (small c.in-Some.v) all.all.h os c.args.first (term_of t) in
    let Q : SvExpr → Type 0 = λ t. Reading g l (Some c.args.pick.now) k a (term_of t) b in
    IfOk-weaker c.known_bit.result P Q
    (λ t w. closed-bit g l k f os a b c.args.first (Some c.args.pick.now) (term_of t) c.args.pick.now _ c.in-Bit.at c.in-Some.v all.all.h c.in_ok-cell-in-Some.field-0.now refl (out-bit _ _ _ c.in-Bit.is) (sym c.value.ensures.known ∙ c.in-Some.is) i h o c.in_ok-cell-in-Some.ensures
    (all.ensures.high ∙ c.width.ensures) w)
    c.known_bit.ensures
