use Rattle.std.proofs.Common.{◌≡◌, refl, sym, ◌∙◌}
use Rattle.scc_base.specs.declared.code.Code.TheVariants as code
use Rattle.scc_core_spec.specs.First.{or_else}
use Rattle.scc_rules.proofs.Told.{finds_may, may_else, may_stop, early_tells}
use Rattle.scc_rules.proofs.rules.check_readers.Goals as goal

pub returns-in-Some-clause-stop : goal.returns-in-Some-clause-stop
returns-in-Some-clause-stop c =
    may_stop 0 (or_else c.in_ok-cycle.cycle c.first_of.result) c.in-Some.found (sym c.first.ensures ∙ c.in-Some.is)
    (may_else 0 _ _ (finds_may code.CombLoop 0 refl refl c.in_ok-cycle.cycle c.in_ok-cycle.ensures) (finds_may code.CombState 0 refl refl c.first_of.result c.first_of.ensures))

pub returns-in-Some-clause-tells : goal.returns-in-Some-clause-tells
returns-in-Some-clause-tells c = λ p is h.
    early_tells p (or_else c.in_ok-cycle.cycle c.first_of.result) c.in-Some.found (sym c.first.ensures ∙ c.in-Some.is)
    (may_else 0 _ _ (finds_may code.CombLoop 0 refl refl c.in_ok-cycle.cycle c.in_ok-cycle.ensures) (finds_may code.CombState 0 refl refl c.first_of.result c.first_of.ensures))
