use Rattle.std.proofs.Common.{◌≡◌, refl}
use Rattle.scc_base.specs.declared.code.Code.TheVariants as code
use Rattle.scc_rules.proofs.Told.{finds_may, may_stop, early_tells}
use Rattle.scc_rules.proofs.rules.check_paths.Goals as goal

pub returns-in-Some-clause-stop : goal.returns-in-Some-clause-stop
returns-in-Some-clause-stop c = may_stop 0 c.first_of.result c.in-Some.found c.in-Some.is (finds_may code.Latch 0 refl refl c.first_of.result c.first_of.ensures)

pub returns-in-Some-clause-tells : goal.returns-in-Some-clause-tells
returns-in-Some-clause-tells c = λ p is h. early_tells p c.first_of.result c.in-Some.found c.in-Some.is (finds_may code.Latch 0 refl refl c.first_of.result c.first_of.ensures)
