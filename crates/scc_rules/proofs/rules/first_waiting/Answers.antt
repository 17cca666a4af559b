use Rattle.std.proofs.Common.{◌≡◌, ◌+◌, ◌<◌, arith, sym, ap, ◌∙◌, length, Some, None}
use Rattle.std.proofs.lemmas.List.{drop_all}
use Rattle.scc_core_spec.specs.First.{first_of}
use Rattle.scc_rules.specs.Stands.{waiting}
use Rattle.scc_rules.proofs.Firsts.{first_next, first_found}
use Rattle.scc_rules.proofs.rules.first_waiting.Goals as goal

pub returns-in-Some-clause-first : goal.returns-in-Some-clause-first
returns-in-Some-clause-first c =
    let h : c.loop-p.p-index < length c.args.processes.now = omega arith in
    first_found waiting c.args.processes.now c.loop-p.p-index c.p-item.result c.in-Some.found _ h c.p-item.is (sym c.waiting.ensures.found ∙ c.in-Some.is) c.loop-p.invariant

pub loop-p-preserved : goal.loop-p-preserved
loop-p-preserved c =
    let h : c.loop-p.p-index < length c.args.processes.now = omega arith in
    first_next waiting c.args.processes.now c.loop-p.p-index c.p-item.result _ h c.p-item.is (sym c.waiting.ensures.found ∙ c.in-None.is) c.loop-p.invariant

pub returns-clause-first : goal.returns-clause-first
returns-clause-first c = ap (first_of waiting) (sym (drop_all c.loop-p.p-index c.args.processes.now (omega arith))) ∙ c.loop-p.invariant
