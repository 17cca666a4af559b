use Rattle.std.proofs.Common.{◌≡◌, ◌≤◌, ◌+◌, ◌*◌, map, drop, length, slice_get, option_map, []}
use Rattle.scc_core_spec.specs.Resolved.{Made}
use Rattle.scc_pointers_walk.specs.Walked.{all_behind, expr_in, part_in, reached, shown_in, with_parts}
use Rattle.scc_pointers_walk.proofs.walk.+resolve.Given as goal

abbrev pub decreases-expr_in : goal.decreases-expr_in
decreases-expr_in c = 16 * c.levels

abbrev pub decreases-over : goal.decreases-over
decreases-over c = 16 * c.levels + 8

abbrev pub decreases-leaf : goal.decreases-leaf
decreases-leaf c = 16 * c.levels + 6

abbrev pub decreases-bits : goal.decreases-bits
decreases-bits c = 16 * c.levels + 5

abbrev pub decreases-behind : goal.decreases-behind
decreases-behind c = 16 * c.levels + 7

abbrev pub decreases-some_expr : goal.decreases-some_expr
decreases-some_expr c = 16 * c.levels + 1

abbrev pub decreases-list_in : goal.decreases-list_in
decreases-list_in c = 16 * c.levels + 1

abbrev pub decreases-pick_in : goal.decreases-pick_in
decreases-pick_in c = 16 * c.levels + 1

abbrev pub decreases-some_pick : goal.decreases-some_pick
decreases-some_pick c = 16 * c.levels + 2

abbrev pub decreases-loaded : goal.decreases-loaded
decreases-loaded c = 16 * c.levels + 5

abbrev pub decreases-read : goal.decreases-read
decreases-read c = 16 * c.levels + 5

abbrev pub decreases-to : goal.decreases-to
decreases-to c = 16 * c.levels

abbrev pub decreases-reached : goal.decreases-reached
decreases-reached c = 16 * c.levels + 4

abbrev pub decreases-based : goal.decreases-based
decreases-based c = 16 * c.levels + 3

abbrev pub decreases-beyond : goal.decreases-beyond
decreases-beyond c = 16 * c.levels + 3

abbrev pub decreases-with_parts : goal.decreases-with_parts
decreases-with_parts c = 16 * c.levels + 2

abbrev pub decreases-step : goal.decreases-step
decreases-step c = 16 * c.levels + 1

abbrev pub invariant-expr_in-loop-more : goal.invariant-expr_in-loop-more
invariant-expr_in-loop-more l = (l.more ≤ length l.list.items) × (option_map Made l.made ≡ option_map (expr_in l.r) (slice_get (map (λ x. x.now) l.list.items) l.more))

abbrev pub decreases-expr_in-loop-more : goal.decreases-expr_in-loop-more
decreases-expr_in-loop-more l = l.more

abbrev pub invariant-to-loop-more : goal.invariant-to-loop-more
invariant-to-loop-more l = (l.more ≤ length l.list.items) × (option_map Made l.at ≡ option_map (reached l.r) (slice_get (map (λ x. (x.0.now, x.1)) l.list.items) l.more))

abbrev pub decreases-to-loop-more : goal.decreases-to-loop-more
decreases-to-loop-more l = l.more

abbrev pub invariant-list_in-loop-e : goal.invariant-list_in-loop-e
invariant-list_in-loop-e l = all_behind l.made (map (λ e. e.made) (map (shown_in l.r) (drop l.e-index l.list))) ≡ all_behind [] (map (λ e. e.made) (map (shown_in l.r) l.list))

abbrev pub invariant-with_parts-loop-part : goal.invariant-with_parts-loop-part
invariant-with_parts-loop-part l = with_parts (map (part_in l.r) (drop l.part-index l.parts)) l.at ≡ with_parts (map (part_in l.r) l.parts) l.initial.at
