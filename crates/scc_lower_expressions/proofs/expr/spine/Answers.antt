use Rattle.std.proofs.Common.{◌≡◌, ap, sym, ◌∙◌, subst, map, List, Some}
use Rattle.std.specs.Option.{option_copied}
use denote.Ref.{Bor}
use Rattle.scc_core.specs.declared.expr.CoreExpr.{CoreExpr}
use Rattle.scc_lower_expressions.specs.Becoming.{IsPath, first_of}
use Rattle.scc_lower_expressions.proofs.Steps.{path-more, map-more}
use Rattle.scc_lower_expressions.proofs.expr.spine.Goals as goal

pub loop-preserved : goal.loop-preserved
loop-preserved c =
    let P : List CoreExpr → Type 0 = λ ys. IsPath c.args.e.now ys c.in-Some.inner.now in
    let first : first_of c.loop.here.now ≡ Some c.in-Some.inner.now = sym c.first.ensures ∙ ap option_copied c.in-Some.is in
    let more = ap (map (λ (x : Bor CoreExpr). x.now)) c.in_ok-push-in-Some.ensures.ok ∙ map-more (λ (x : Bor CoreExpr). x.now) c.loop.found.items c.loop.here in
    subst P (sym more) (path-more c.args.e.now c.loop.here.now c.in-Some.inner.now (map (λ x. x.now) c.loop.found.items) c.loop.invariant first)
