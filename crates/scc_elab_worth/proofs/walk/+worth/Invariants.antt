use Rattle.std.proofs.Common.{◌≡◌, ◌+◌, ◌*◌, ◌-◌, map, drop, length, true}
use Rattle.scc_elab_worth.specs.Sites.{around, spot_of}
use Rattle.scc_elab_worth.specs.Worths as seen
use Rattle.scc_elab_worth.proofs.Chains.{over_all, beyond_all, Carries}
use Rattle.scc_elab_worth.proofs.walk.+worth.Given as goal

abbrev pub decreases-value : goal.decreases-value
decreases-value c = 16 * c.room

abbrev pub decreases-leaf : goal.decreases-leaf
decreases-leaf c = 16 * c.room + 9

abbrev pub decreases-over : goal.decreases-over
decreases-over c = 16 * c.room + 2

abbrev pub decreases-picked : goal.decreases-picked
decreases-picked c = 16 * c.room + 1

abbrev pub decreases-load : goal.decreases-load
decreases-load c = 16 * c.room + 7

abbrev pub decreases-held : goal.decreases-held
decreases-held c = 16 * c.room + 2

abbrev pub decreases-joined : goal.decreases-joined
decreases-joined c = 16 * c.room + 3

abbrev pub decreases-behind : goal.decreases-behind
decreases-behind c = 16 * c.room + 2

abbrev pub decreases-below : goal.decreases-below
decreases-below c = 16 * c.room + 1

abbrev pub decreases-find : goal.decreases-find
decreases-find c = 16 * c.room + 6

abbrev pub decreases-pointer_at : goal.decreases-pointer_at
decreases-pointer_at c = 16 * c.room

abbrev pub decreases-based : goal.decreases-based
decreases-based c = 16 * c.room + 4

abbrev pub decreases-beyond : goal.decreases-beyond
decreases-beyond c = 16 * c.room + 4

abbrev pub decreases-walked : goal.decreases-walked
decreases-walked c = 16 * c.room + 3

abbrev pub decreases-step : goal.decreases-step
decreases-step c = 16 * c.room + 2

abbrev pub decreases-element : goal.decreases-element
decreases-element c = 16 * c.room + 1

abbrev pub invariant-value-loop-inner : goal.invariant-value-loop-inner
invariant-value-loop-inner l = let g = around l.s in over_all (map (λ x. seen.expr g x.now) l.spine.items) (seen.expr g l.here).known ≡ (seen.expr g l.e).known

abbrev pub invariant-value-loop-outer : goal.invariant-value-loop-outer
invariant-value-loop-outer l = let g = around l.s in Carries (λ v. v) (over_all (map (λ x. seen.expr g x.now) l.spine.items)) l.value (seen.expr g l.e).known

abbrev pub decreases-value-loop-outer : goal.decreases-value-loop-outer
decreases-value-loop-outer l = length l.spine.items

abbrev pub invariant-pointer_at-loop-inner : goal.invariant-pointer_at-loop-inner
invariant-pointer_at-loop-inner l = let g = around l.s in beyond_all l.soft (map (λ x. seen.left g x.now) l.spine.items) ((seen.left g l.here).at l.soft true) ≡ (seen.left g l.left).at l.soft true

abbrev pub invariant-pointer_at-loop-outer : goal.invariant-pointer_at-loop-outer
invariant-pointer_at-loop-outer l = let g = around l.s in Carries spot_of (beyond_all l.soft (map (λ x. seen.left g x.now) l.spine.items)) l.at ((seen.left g l.left).at l.soft true)

abbrev pub decreases-pointer_at-loop-outer : goal.decreases-pointer_at-loop-outer
decreases-pointer_at-loop-outer l = length l.spine.items

abbrev pub invariant-below-loop-part : goal.invariant-below-loop-part
invariant-below-loop-part l = let g = around l.s in seen.joined_below l.kind (map (seen.expr g) (drop l.part-index l.parts)) l.whole ≡ seen.joined_below l.kind (map (seen.expr g) l.parts) l.word

abbrev pub invariant-walked-loop-part : goal.invariant-walked-loop-part
invariant-walked-loop-part l = let g = around l.s in record {
  walk : seen.walked l.place l.soft l.follow (map (seen.part g) (drop l.part-index l.parts)) (spot_of l.at) ≡ seen.walked l.place l.soft l.follow (map (seen.part g) l.parts) (spot_of l.initial.at);
  count : l.left ≡ length l.parts - l.part-index;
}
