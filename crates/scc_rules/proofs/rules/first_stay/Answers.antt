use Rattle.std.proofs.Common.{◌≡◌, refl, sym, ap, ◌∙◌, subst}
use Rattle.scc_base.specs.declared.code.Code.TheVariants as code
use Rattle.scc_core_spec.specs.First.{or_else}
use Rattle.scc_core_spec.specs.Rules.{wait_in_method}
use Rattle.scc_rules.specs.Refusals.{MayFind}
use Rattle.scc_rules.proofs.Told.{finds_may, may_else, all_stays}
use Rattle.scc_rules.proofs.rules.first_stay.Goals as goal

pub returns-clause-code : goal.returns-clause-code
returns-clause-code c =
    let waits = finds_may code.WaitInMethod 1 refl refl c.wait_in_method-waits.result c.wait_in_method-waits.ensures.code in
    let loops = finds_may code.LoopMayNotWait 1 refl refl c.in_ok-loops.loops c.in_ok-loops.ensures.code in
    let ends = finds_may code.EndReached 1 refl refl c.end_reached-ends.result c.end_reached-ends.ensures.code in
    let last = subst (MayFind 1) (sym c.first.ensures) (may_else 1 _ _ loops ends) in
    subst (MayFind 1) (sym c.first-2.ensures) (may_else 1 _ _ waits last)

pub returns-clause-first : goal.returns-clause-first
returns-clause-first c = λ p is h.
    c.first-2.ensures ∙ ap (or_else c.wait_in_method-waits.result) c.first.ensures
    ∙ all_stays p _ _ _ (c.wait_in_method-waits.ensures.first ∙ ap wait_in_method (sym is)) (c.in_ok-loops.ensures.first p h) (c.end_reached-ends.ensures.first p is h)
