use Rattle.std.proofs.Common.{◌≡◌, ◌<◌, ◌≤◌, arith, length, subst, take}
use Rattle.std.proofs.lemmas.List.{take_all}
use Rattle.scc_core_flow.specs.Live.{DecidesAll}
use Rattle.scc_rules.specs.Stands.{HasBodies}
use Rattle.scc_rules.proofs.Lives.{each_at, more_lives, no_lives}
use Rattle.scc_rules.proofs.facts.lives_of.Goals as goal

pub loop-process-init : goal.loop-process-init
loop-process-init c = λ cs d. no_lives cs _ c.new.ensures.items c.new-2.ensures.items

pub loop-process-preserved : goal.loop-process-preserved
loop-process-preserved c = λ cs d.
    let h : c.loop-process.process-index < length c.args.processes.now = omega arith in
    let ps = c.args.processes.now in
    more_lives cs ps c.loop-process.process-index c.process-item.result c.add_live.new.lives h c.process-item.is
    (c.in_ok-add_live.ensures cs (take c.loop-process.process-index ps) (each_at (λ p. DecidesAll c.args.known.now cs p.body) ps c.loop-process.process-index c.process-item.result h c.process-item.is d) (c.loop-process.invariant cs d))

pub returns : goal.returns
returns c = λ cs d. subst (λ ps. HasBodies cs ps c.loop-process.lives) (take_all c.loop-process.process-index c.args.processes.now (omega arith)) (c.loop-process.invariant cs d)
