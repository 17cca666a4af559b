use Rattle.std.proofs.Common.{◌≡◌, refl, sym, ◌∙◌}
use Rattle.scc_base.specs.declared.code.Code.TheVariants as code
use Rattle.scc_rules.proofs.Told.{finds_may, waits_stop, waits_tell, pass_tells}
use Rattle.scc_rules.proofs.rules.check_waits.Goals as goal

pub returns-in-Some-clause-stop : goal.returns-in-Some-clause-stop
returns-in-Some-clause-stop c =
    waits_stop c.in_ok-waits.waits c.in_ok-chosen.chosen c.in-Some.found (sym c.first.ensures ∙ c.in-Some.is) c.in_ok-waits.ensures.code (finds_may code.SignalIndex 2 refl refl c.in_ok-chosen.chosen c.in_ok-chosen.ensures.code)

pub returns-in-Some-clause-tells : goal.returns-in-Some-clause-tells
returns-in-Some-clause-tells c = λ p is h.
    waits_tell p c.in_ok-waits.waits c.in_ok-chosen.chosen c.in-Some.found (sym c.first.ensures ∙ c.in-Some.is) c.in_ok-waits.ensures.code (finds_may code.SignalIndex 2 refl refl c.in_ok-chosen.chosen c.in_ok-chosen.ensures.code) (c.in_ok-waits.ensures.first p is h)

pub returns-in-None-clause-tells : goal.returns-in-None-clause-tells
returns-in-None-clause-tells c = λ p is h. pass_tells p c.in_ok-waits.waits c.in_ok-chosen.chosen c.ordered.result (sym c.first.ensures ∙ c.in-None.is) (c.in_ok-waits.ensures.first p is h) c.ordered.ensures.none
