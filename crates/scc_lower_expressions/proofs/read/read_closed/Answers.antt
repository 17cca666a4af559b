use Rattle.std.proofs.Common.{Option, Some, map, sym, ap, subst}
use Rattle.std.proofs.lemmas.Result.{IfOk-weaker}
use Rattle.std.specs.Option.{option_copied}
use Rattle.scc_core.specs.declared.expr.CorePick.{CorePick}
use Rattle.scc_svtree.specs.declared.expr.SvExpr.{SvExpr}
use Rattle.scc_svtree.specs.Term.{term_of}
use Rattle.scc_lower_tree_laws.specs.Finding.{Reading}
use Rattle.scc_lower_expressions.specs.Becoming.{IsWholeRead, given_of, opened_of, state_of}
use Rattle.scc_lower_expressions.proofs.Closed.{closed-whole}
use Rattle.scc_lower_expressions.proofs.read.read_closed.Goals as goal

pub returns-in-None : goal.returns-in-None
returns-in-None c = λ l k f a i h o.
    let g = given_of c.args.cells in
    let b = state_of c.args.cx.now in
    let os = map opened_of c.args.opens.now in
    let P : SvExpr → Type 0 = λ t. IsWholeRead g b.views os c.args.first (term_of t) in
    let Q : SvExpr → Type 0 = λ t. Reading g l (option_copied c.args.pick) k a (term_of t) b in
    IfOk-weaker c.read_whole.result P Q
    (λ t w. closed-whole g l k f os a b c.args.first (option_copied c.args.pick) (term_of t) (ap option_copied c.in-None.is) i h o w)
    c.read_whole.ensures

pub returns-in-Some : goal.returns-in-Some
returns-in-Some c = λ l k f a i h o.
    let g = given_of c.args.cells in
    let b = state_of c.args.cx.now in
    let P : SvExpr → Type 0 = λ t. Reading g l (Some c.in-Some.pick.now) k a (term_of t) b in
    let Q : SvExpr → Type 0 = λ t. Reading g l (option_copied c.args.pick) k a (term_of t) b in
    IfOk-weaker c.read_bits.result P Q
    (λ t w. (let R : Option CorePick → Type 0 = λ q. Reading g l q k a (term_of t) b in subst R (sym (ap option_copied c.in-Some.is)) w))
    (c.read_bits.ensures l k f a i h o)
