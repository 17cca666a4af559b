use Rattle.std.proofs.Common.{◌≡◌, ◌+◌, ◌<◌, arith, sym, ap, ◌∙◌, length, Some, None}
use Rattle.std.proofs.lemmas.List.{drop_all}
use Rattle.scc_core_spec.specs.First.{first_of}
use Rattle.scc_rules.specs.Chosen.{chosen_at}
use Rattle.scc_rules.proofs.Firsts.{first_next, first_found}
use Rattle.scc_rules.proofs.whole.first_chosen.Goals as goal

pub returns-in-Some : goal.returns-in-Some
returns-in-Some c =
    let h : c.loop-load.load-index < length c.args.uses.now = omega arith in
    first_found (chosen_at c.args.f.now) c.args.uses.now c.loop-load.load-index c.load-item.result c.in-Some.place _ h c.load-item.is (sym c.in_ok-place.ensures ∙ c.in-Some.is) c.loop-load.invariant

pub loop-load-preserved : goal.loop-load-preserved
loop-load-preserved c =
    let h : c.loop-load.load-index < length c.args.uses.now = omega arith in
    first_next (chosen_at c.args.f.now) c.args.uses.now c.loop-load.load-index c.load-item.result _ h c.load-item.is (sym c.in_ok-place.ensures ∙ c.in-None.is) c.loop-load.invariant

pub returns : goal.returns
returns c = ap (first_of (chosen_at c.args.f.now)) (sym (drop_all c.loop-load.load-index c.args.uses.now (omega arith))) ∙ c.loop-load.invariant
