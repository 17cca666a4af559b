use Rattle.std.proofs.Common.{◌≡◌, ◌+◌, ◌<◌, arith, sym, ap, ◌∙◌, length, Some, None}
use Rattle.std.proofs.lemmas.List.{drop_all}
use Rattle.scc_core_spec.specs.First.{first_of}
use Rattle.scc_rules.specs.Chosen.{AreLocated, chosen_by, own_in}
use Rattle.scc_rules.proofs.Firsts.{first_next, first_found}
use Rattle.scc_rules.proofs.Lives.{each_at}
use Rattle.scc_rules.proofs.rules.first_choosing.Goals as goal

pub returns-in-Some-clause-first : goal.returns-in-Some-clause-first
returns-in-Some-clause-first c = λ cs a.
    let h : c.loop-p.p-index < length c.args.processes.now = omega arith in
    let ps = c.args.processes.now in
    let here = each_at (λ p. AreLocated c.args.f.now cs (own_in p)) ps c.loop-p.p-index c.p-item.result h c.p-item.is a in
    first_found (chosen_by cs) ps c.loop-p.p-index c.p-item.result c.in-Some.found _ h c.p-item.is (sym (c.in_ok-found.ensures.found cs here) ∙ c.in-Some.is) (c.loop-p.invariant cs a)

pub loop-p-preserved : goal.loop-p-preserved
loop-p-preserved c = λ cs a.
    let h : c.loop-p.p-index < length c.args.processes.now = omega arith in
    let ps = c.args.processes.now in
    let here = each_at (λ p. AreLocated c.args.f.now cs (own_in p)) ps c.loop-p.p-index c.p-item.result h c.p-item.is a in
    first_next (chosen_by cs) ps c.loop-p.p-index c.p-item.result _ h c.p-item.is (sym (c.in_ok-found.ensures.found cs here) ∙ c.in-None.is) (c.loop-p.invariant cs a)

pub returns-clause-first : goal.returns-clause-first
returns-clause-first c = λ cs a. ap (first_of (chosen_by cs)) (sym (drop_all c.loop-p.p-index c.args.processes.now (omega arith))) ∙ c.loop-p.invariant cs a
