use Rattle.std.proofs.Common.{◌≡◌, ◌+◌, ◌-◌, ◌/◌, ◌<◌, ℕ, List, ◌∷◌, length, map, sym, subst, Some, arith}
use Rattle.std.proofs.lemmas.Result.{IfOk-weaker}
use Rattle.scc_svtree.specs.declared.expr.SvExpr.{SvExpr}
use Rattle.scc_svtree.specs.Term as emitted
use Rattle.scc_svtree.specs.Term.{term_of}
use Rattle.scc_lower_spec.specs.Selected.{halves_term}
use Rattle.scc_lower_laws.specs.Elements.{variable_of, within_text}
use Rattle.scc_lower_tree_laws.specs.Choosing.{ReadsElement, ReadsSpan}
use Rattle.scc_lower_tree_laws.proofs.Trees.{reads-one, reads-halves, reads-all}
use Rattle.scc_lower_expressions.specs.declared.index.Open.{Open}
use Rattle.scc_lower_expressions.specs.Becoming.{given_of, opened_of, seen_of, slot_of}
use Rattle.scc_lower_expressions.specs.Reads.{read_text}
use Rattle.scc_lower_expressions.proofs.Opens.{no-opens}
use Rattle.scc_lower_expressions.proofs.Steps.{cell-reads}
use Rattle.scc_lower_expressions.proofs.tree.+choices.Goals as goal

pub between-returns-then-half-eq0 : goal.between-returns-then-half-eq0
between-returns-then-half-eq0 t c =
    let g = given_of c.args.cells in
    let views = map seen_of c.args.cx.now.views.now in
    let o = opened_of c.args.dim in
    let os = map opened_of c.args.inner.now in
    let low = c.args.span.low in
    let b = c.args.bits in
    let next : low + 1 ≡ c.args.span.high = omega arith in
    let P : SvExpr → Type 0 = λ z. ReadsElement g views os c.in_ok-at.at b.h b.l (term_of z) in
    let Q : SvExpr → Type 0 = λ z. ReadsSpan g views o os c.args.first low c.args.span.high b.h b.l (term_of z) in
    IfOk-weaker c.element.result P Q
    (λ z k. (let R : ℕ → Type 0 = λ n. ReadsSpan g views o os c.args.first low n b.h b.l (term_of z) in subst R next (reads-one g views o os c.args.first low c.in_ok-at.at b.h b.l (term_of z) c.in_ok-at.ensures k)))
    c.element.ensures

pub between-returns : goal.between-returns
between-returns t c =
    let g = given_of c.args.cells in
    let views = map seen_of c.args.cx.now.views.now in
    let o = opened_of c.args.dim in
    let os = map opened_of c.args.inner.now in
    let low = c.args.span.low in
    let high = c.args.span.high in
    let middle : ℕ = low + (high - low) / 2 in
    let b = c.args.bits in
    let first : low < middle = omega arith in
    let second : middle < high = omega arith in
    let yes-text = term_of c.in_ok-yes.yes in
    let no-text = term_of c.in_ok-no.no in
    let P : SvExpr → Type 0 = λ z. term_of z ≡ halves_term c.args.dim.at.width (variable_of c.args.dim.at.var.0) middle yes-text no-text in
    let Q : SvExpr → Type 0 = λ z. ReadsSpan g views o os c.args.first low high b.h b.l (term_of z) in
    IfOk-weaker c.halves.result P Q
    (λ z k. (let R : emitted.Term → Type 0 = λ u. ReadsSpan g views o os c.args.first low high b.h b.l u in subst R (sym k) (reads-halves g views o os c.args.first low middle high b.h b.l yes-text no-text first second c.in_ok-yes.ensures c.in_ok-no.ensures)))
    c.halves.ensures

pub element-returns-in_default : goal.element-returns-in_default
element-returns-in_default t c =
    let g = given_of c.args.cells in
    let vs = c.args.cx.now.views.now in
    let b = c.args.bits in
    let none : length c.args.opens.now ≡ 0 = c.in_default.ensures.cases in
    let P : SvExpr → Type 0 = λ z. read_text c.args.cells.cells.now vs c.args.first b.h b.l ≡ Some (term_of z) in
    let Q : SvExpr → Type 0 = λ z. ReadsElement g (map seen_of vs) (map opened_of c.args.opens.now) c.args.first b.h b.l (term_of z) in
    IfOk-weaker c.read_part.result P Q
    (λ z k. (let R : List Open → Type 0 = λ os. ReadsElement g (map seen_of vs) (map opened_of os) c.args.first b.h b.l (term_of z) in subst R (sym (no-opens c.args.opens.now none)) (cell-reads g vs c.args.first b.h b.l (term_of z) k)))
    c.read_part.ensures

pub element-returns : goal.element-returns
element-returns t c =
    let g = given_of c.args.cells in
    let views = map seen_of c.args.cx.now.views.now in
    let o = c.in-Some.open.now in
    let b = c.args.bits in
    let made : c.args.opens.now ≡ o ∷ c.in-Some.inner.now = c.in-Some.ensures.cases.0 in
    let P : SvExpr → Type 0 = λ z. term_of z ≡ within_text (slot_of o.at) o.size b.h b.l (term_of c.in_ok-chosen.chosen) in
    let Q : SvExpr → Type 0 = λ z. ReadsElement g views (map opened_of c.args.opens.now) c.args.first b.h b.l (term_of z) in
    IfOk-weaker c.within.result P Q
    (λ z k. (
    let R : List Open → Type 0 = λ os. ReadsElement g views (map opened_of os) c.args.first b.h b.l (term_of z) in
    let S : emitted.Term → Type 0 = λ u. ReadsElement g views (opened_of o ∷ map opened_of c.in-Some.inner.now) c.args.first b.h b.l u in
    subst R (sym made) (subst S (sym k) (reads-all g views (opened_of o) (map opened_of c.in-Some.inner.now) c.args.first c.reach.result b.h b.l (term_of c.in_ok-chosen.chosen) c.reach.ensures c.in_ok-chosen.ensures))))
    c.within.ensures
