use Rattle.std.proofs.Common.{◌≡◌, map, length}
use Rattle.scc_elab_inits.specs.Lefts as seen
use Rattle.scc_elab_inits.proofs.Chains.{over_all}
use Rattle.scc_elab_inits.proofs.lefts.seen_at.Given as goal

abbrev pub invariant-loop-inner : goal.invariant-loop-inner
invariant-loop-inner l = over_all (map (λ x. seen.left l.s.plain.now l.s.function.now x.now) l.spine.items) (seen.left l.s.plain.now l.s.function.now l.here).at ≡ (seen.left l.s.plain.now l.s.function.now l.left).at

abbrev pub invariant-loop-outer : goal.invariant-loop-outer
invariant-loop-outer l = over_all (map (λ x. seen.left l.s.plain.now l.s.function.now x.now) l.spine.items) l.at ≡ (seen.left l.s.plain.now l.s.function.now l.left).at

abbrev pub decreases-loop-outer : goal.decreases-loop-outer
decreases-loop-outer l = length l.spine.items
