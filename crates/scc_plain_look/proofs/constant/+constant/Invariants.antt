use Rattle.std.proofs.Common.{◌≡◌, ◌+◌, ◌*◌, length, map, drop, Some, IfSome}
use Rattle.scc_plain_look.specs.Constant.{above_all}
use Rattle.scc_plain_look.specs.Seen.{expr, known_of_each}
use Rattle.scc_plain_look.proofs.Chains.{over_all}
use Rattle.scc_plain_look.proofs.constant.+constant.Given as goal

abbrev pub decreases-known : goal.decreases-known
decreases-known c = 4 * c.room

abbrev pub decreases-over : goal.decreases-over
decreases-over c = 4 * c.room + 1

abbrev pub decreases-behind : goal.decreases-behind
decreases-behind c = 4 * c.room + 1

abbrev pub decreases-joined : goal.decreases-joined
decreases-joined c = 4 * c.room + 2

abbrev pub decreases-leaf : goal.decreases-leaf
decreases-leaf c = 4 * c.room + 3

abbrev pub invariant-known-loop-inner : goal.invariant-known-loop-inner
invariant-known-loop-inner l = over_all (map (λ x. expr x.now) l.spine.items) (expr l.here).known ≡ (expr l.e).known

abbrev pub invariant-known-loop-outer : goal.invariant-known-loop-outer
invariant-known-loop-outer l = IfSome l.value (λ v. over_all (map (λ x. expr x.now) l.spine.items) (Some v) ≡ (expr l.e).known)

abbrev pub invariant-behind-loop-part : goal.invariant-behind-loop-part
invariant-behind-loop-part l = above_all (Some l.high) (known_of_each (map expr (drop l.part-index l.parts))) ≡ above_all (Some l.initial.high) (known_of_each (map expr l.parts))

abbrev pub decreases-known-loop-outer : goal.decreases-known-loop-outer
decreases-known-loop-outer l = length l.spine.items
