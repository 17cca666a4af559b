use Rattle.std.proofs.Common.{◌≡◌, ◌<◌, ◌≤◌, map, sym, ◌∙◌, Some, None, arith}
use Rattle.std.proofs.lemmas.Result.{IfOk-weaker}
use Rattle.scc_core.specs.Numbers.{small}
use Rattle.scc_core.proofs.Numbers.{small_is}
use Rattle.scc_svtree.specs.declared.expr.SvExpr.{SvExpr}
use Rattle.scc_svtree.specs.Term as emitted
use Rattle.scc_svtree.specs.Term.{term_of}
use Rattle.scc_lower_tree_laws.specs.Choosing.{ReadsElement}
use Rattle.scc_lower_tree_laws.specs.Finding.{IsKnownBit}
use Rattle.scc_lower_expressions.specs.Becoming.{given_of, opened_of, seen_of}
use Rattle.scc_lower_expressions.proofs.Closed.{bit-in, bit-past, bit-none}
use Rattle.scc_lower_expressions.proofs.read.known_bit.Goals as goal

pub returns-then-i-high : goal.returns-then-i-high
returns-then-i-high c =
    let g = given_of c.args.cells in
    let views = map seen_of c.args.cx.now.views.now in
    let os = map opened_of c.args.opens.now in
    let i = c.in-Some.i in
    let is : small c.args.at ≡ Some i = sym (small_is c.small.result c.args.at c.small.ensures.some c.small.ensures.is) ∙ c.in-Some.is in
    let low : i ≤ c.args.high = omega arith in
    let P : SvExpr → Type 0 = λ t. ReadsElement g views os c.args.first i i (term_of t) in
    let Q : SvExpr → Type 0 = λ t. IsKnownBit g views (small c.args.at) c.args.high os c.args.first (term_of t) in
    IfOk-weaker c.element.result P Q (λ t k. bit-in g views c.args.at c.args.high os c.args.first (term_of t) i is low k) c.element.ensures

pub returns-else-i-high : goal.returns-else-i-high
returns-else-i-high c =
    let g = given_of c.args.cells in
    let views = map seen_of c.args.cx.now.views.now in
    let os = map opened_of c.args.opens.now in
    let i = c.in-Some.i in
    let is : small c.args.at ≡ Some i = sym (small_is c.small.result c.args.at c.small.ensures.some c.small.ensures.is) ∙ c.in-Some.is in
    let past : c.args.high < i = omega arith in
    let P : SvExpr → Type 0 = λ t. term_of t ≡ emitted.Literal 1 0 in
    let Q : SvExpr → Type 0 = λ t. IsKnownBit g views (small c.args.at) c.args.high os c.args.first (term_of t) in
    IfOk-weaker c.literal.result P Q (λ t k. bit-past g views c.args.at c.args.high os c.args.first (term_of t) i is past k) c.literal.ensures

pub returns-in-None : goal.returns-in-None
returns-in-None c =
    let g = given_of c.args.cells in
    let views = map seen_of c.args.cx.now.views.now in
    let os = map opened_of c.args.opens.now in
    let is : small c.args.at ≡ None = sym (small_is c.small.result c.args.at c.small.ensures.some c.small.ensures.is) ∙ c.in-None.is in
    let P : SvExpr → Type 0 = λ t. term_of t ≡ emitted.Literal 1 0 in
    let Q : SvExpr → Type 0 = λ t. IsKnownBit g views (small c.args.at) c.args.high os c.args.first (term_of t) in
    IfOk-weaker c.literal-in-None.result P Q (λ t k. bit-none g views c.args.at c.args.high os c.args.first (term_of t) is k) c.literal-in-None.ensures
