use Rattle.std.proofs.Common.{◌≡◌, ◌+◌, ◌<◌, arith, sym, ap, ◌∙◌, length, Some, None}
use Rattle.std.proofs.lemmas.List.{drop_all}
use Rattle.scc_core_spec.specs.First.{first_of}
use Rattle.scc_rules.specs.Stands.{idling}
use Rattle.scc_rules.proofs.Firsts.{first_next, first_found}
use Rattle.scc_rules.proofs.rules.first_idling.Goals as goal

pub returns-in-Some-clause-first : goal.returns-in-Some-clause-first
returns-in-Some-clause-first c =
    let h : c.loop-live.live-index < length c.args.lives.now = omega arith in
    first_found idling c.args.lives.now c.loop-live.live-index c.live-item.result c.in-Some.found _ h c.live-item.is (ap idling (sym c.as_slice.ensures.elements) ∙ sym c.in_ok-found.ensures.found ∙ c.in-Some.is) c.loop-live.invariant

pub loop-live-preserved : goal.loop-live-preserved
loop-live-preserved c =
    let h : c.loop-live.live-index < length c.args.lives.now = omega arith in
    first_next idling c.args.lives.now c.loop-live.live-index c.live-item.result _ h c.live-item.is (ap idling (sym c.as_slice.ensures.elements) ∙ sym c.in_ok-found.ensures.found ∙ c.in-None.is) c.loop-live.invariant

pub returns-clause-first : goal.returns-clause-first
returns-clause-first c = ap (first_of idling) (sym (drop_all c.loop-live.live-index c.args.lives.now (omega arith))) ∙ c.loop-live.invariant
