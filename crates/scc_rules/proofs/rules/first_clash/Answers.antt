use Rattle.std.proofs.Common.{◌≡◌, refl, sym, subst}
use Rattle.scc_base.specs.declared.code.Code.TheVariants as code
use Rattle.scc_rules.specs.Refusals.{MayFind}
use Rattle.scc_rules.proofs.Told.{finds_may, may_else}
use Rattle.scc_rules.proofs.rules.first_clash.Goals as goal

pub returns : goal.returns
returns c =
    let clocks = finds_may code.ClockAsData 0 refl refl c.in_ok-clocks.clocks c.in_ok-clocks.ensures.code in
    let writers = finds_may code.TwoWriters 0 refl refl c.in_ok-writers.writers c.in_ok-writers.ensures in
    let shared = finds_may code.SharedVariable 0 refl refl c.in_ok-shared.shared c.in_ok-shared.ensures in
    let missing = finds_may code.MissingSensitivity 0 refl refl c.in_ok-missing.missing c.in_ok-missing.ensures.code in
    let last = subst (MayFind 0) (sym c.first.ensures) (may_else 0 _ _ shared missing) in
    let more = subst (MayFind 0) (sym c.first-2.ensures) (may_else 0 _ _ writers last) in
    subst (MayFind 0) (sym c.first-3.ensures) (may_else 0 _ _ clocks more)
