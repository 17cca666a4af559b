use Rattle.std.proofs.Common.{◌≡◌, sym, subst}
use Rattle.scc_rules.specs.Chosen.{AreLocated, uses_in}
use Rattle.scc_rules.proofs.Choosing.{chosen_told}
use Rattle.scc_rules.proofs.rules.choosing.Goals as goal

pub returns-clause-found : goal.returns-clause-found
returns-clause-found c = λ cs a.
    chosen_told cs c.args.p.now c.as_slice.result.now c.in_ok-place.place _ c.as_slice.ensures.elements
    (c.in_ok-place.ensures cs (subst (λ ss. AreLocated c.args.f.now cs (uses_in ss)) (sym c.as_slice.ensures.elements) a)) c.told.ensures.found
