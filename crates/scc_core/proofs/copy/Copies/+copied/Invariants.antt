use Rattle.std.proofs.Common.{◌≡◌, ◌≤◌, ◌+◌, ◌*◌, map, take, length, slice_get, None, option_map}
use Rattle.scc_core.specs.Copies.{IsPlain}
use Rattle.scc_core.specs.Counters.{counters_of, counted, counted_left, counted_part}
use Rattle.scc_core.proofs.copy.Copies.+copied.Given as goal

abbrev pub decreases-expr_in : goal.decreases-expr_in
decreases-expr_in l = 8 * l.levels

abbrev pub decreases-left_in : goal.decreases-left_in
decreases-left_in l = 8 * l.levels

abbrev pub decreases-list : goal.decreases-list
decreases-list l = 8 * l.levels + 1

abbrev pub decreases-pick : goal.decreases-pick
decreases-pick l = 8 * l.levels + 1

abbrev pub decreases-parts : goal.decreases-parts
decreases-parts l = 8 * l.levels + 1

abbrev pub decreases-load : goal.decreases-load
decreases-load l = 8 * l.levels + 3

abbrev pub decreases-behind : goal.decreases-behind
decreases-behind l = 8 * l.levels + 2

abbrev pub decreases-over : goal.decreases-over
decreases-over l = 8 * l.levels + 4

abbrev pub invariant-expr_in-loop-left : goal.invariant-expr_in-loop-left
invariant-expr_in-loop-left l =
    (l.left ≤ length l.list.items)
    × (IsPlain l.self → l.made ≡ slice_get (map (λ x. x.now) l.list.items) l.left)
    × (l.self.numbers ≡ None → l.made ≡ option_map (counted (counters_of l.self)) (slice_get (map (λ x. x.now) l.list.items) l.left))

abbrev pub decreases-expr_in-loop-left : goal.decreases-expr_in-loop-left
decreases-expr_in-loop-left l = l.left

abbrev pub invariant-left_in-loop-more : goal.invariant-left_in-loop-more
invariant-left_in-loop-more l =
    (l.more ≤ length l.list.items)
    × (IsPlain l.self → l.made ≡ slice_get (map (λ x. x.now) l.list.items) l.more)
    × (l.self.numbers ≡ None → l.made ≡ option_map (counted_left (counters_of l.self)) (slice_get (map (λ x. x.now) l.list.items) l.more))

abbrev pub decreases-left_in-loop-more : goal.decreases-left_in-loop-more
decreases-left_in-loop-more l = l.more

abbrev pub invariant-list-loop-e : goal.invariant-list-loop-e
invariant-list-loop-e l = (IsPlain l.self → l.made ≡ take l.e-index l.list) × (l.self.numbers ≡ None → l.made ≡ map (counted (counters_of l.self)) (take l.e-index l.list))

abbrev pub invariant-parts-loop-part : goal.invariant-parts-loop-part
invariant-parts-loop-part l = (IsPlain l.self → l.made ≡ take l.part-index l.list) × (l.self.numbers ≡ None → l.made ≡ map (counted_part (counters_of l.self)) (take l.part-index l.list))
