use Rattle.std.proofs.Common.{◌≡◌, length, map}
use Rattle.scc_plain_tree.specs.declared.expr.PlainLeft.{size-PlainLeft}
use Rattle.scc_plain_look.specs.Held.{around}
use Rattle.scc_plain_look.specs.Seen as seen
use Rattle.scc_plain_look.proofs.Chains.{behind_all}
use Rattle.scc_plain_look.proofs.place.held.Given as goal

abbrev pub invariant-loop-here : goal.invariant-loop-here
invariant-loop-here l =
    let a = around l.s.plain.now l.s.function.now l.s.calls.now in
    behind_all a (map (λ x. seen.left x.now) l.spine.items) ((seen.left l.here).held a) ≡ (seen.left l.left).held a

abbrev pub invariant-loop-outer : goal.invariant-loop-outer
invariant-loop-outer l =
    let a = around l.s.plain.now l.s.function.now l.s.calls.now in
    behind_all a (map (λ x. seen.left x.now) l.spine.items) l.h ≡ (seen.left l.left).held a

abbrev pub decreases-loop-here : goal.decreases-loop-here
decreases-loop-here l = size-PlainLeft l.here

abbrev pub decreases-loop-outer : goal.decreases-loop-outer
decreases-loop-outer l = length l.spine.items
