use Rattle.std.proofs.Common.{ap, sym, ◌∙◌, subst, map, List}
use denote.Ref.{Bor}
use Rattle.scc_svtree.specs.declared.expr.SvExpr.{SvExpr}
use Rattle.scc_svtree_renumber.specs.Copies.{IsPath}
use Rattle.scc_svtree_renumber.proofs.Paths.{path-less, map-more}
use Rattle.scc_svtree_renumber.proofs.expr.+renumbered.Goals as goal

pub renumbered_expr-loop-outer-preserved : goal.renumbered_expr-loop-outer-preserved
renumbered_expr-loop-outer-preserved t c = λ same.
    let e = c.args.e.now in
    let outer = c.in-Some.outer in
    let rest : List SvExpr = map (λ (x : Bor SvExpr). x.now) c.pop.new.self.items in
    let P : List SvExpr → Type 0 = λ ys. IsPath e ys c.loop-outer.made in
    let Q : SvExpr → Type 0 = λ z. IsPath e rest z in
    let more = ap (map (λ (x : Bor SvExpr). x.now)) c.in-Some.ensures.items ∙ map-more (λ (x : Bor SvExpr). x.now) c.pop.new.self.items outer in
    let r = path-less e outer.now c.loop-outer.made rest (subst P more (c.loop-outer.invariant same)) in
    subst Q (sym (c.in_ok-made-2.ensures same r.1)) r.0
