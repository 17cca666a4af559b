use Rattle.std.proofs.Common.{◌≡◌, ◌≤◌, ◌+◌, ◌*◌, ℕ, map, take, length, slice_get, option_map}
use Rattle.scc_pointers_numbers.specs.Numbered.{Found, numbered, numbered_left, numbered_part}
use Rattle.scc_pointers_numbers.proofs.numbering.Numbering.+numbered.Given as goal

abbrev pub decreases-expr_in : goal.decreases-expr_in
decreases-expr_in l = 8 * l.levels

abbrev pub decreases-left_in : goal.decreases-left_in
decreases-left_in l = 8 * l.levels

abbrev pub decreases-list : goal.decreases-list
decreases-list l = 8 * l.levels + 1

abbrev pub decreases-pick : goal.decreases-pick
decreases-pick l = 8 * l.levels + 1

abbrev pub decreases-parts : goal.decreases-parts
decreases-parts l = 8 * l.levels + 2

abbrev pub decreases-part : goal.decreases-part
decreases-part l = 8 * l.levels + 1

abbrev pub decreases-behind : goal.decreases-behind
decreases-behind l = 8 * l.levels + 3

abbrev pub decreases-over : goal.decreases-over
decreases-over l = 8 * l.levels + 4

abbrev pub invariant-expr_in-loop-left : goal.invariant-expr_in-loop-left
invariant-expr_in-loop-left l =
    (l.left ≤ length l.list.items)
    × ((f : ℕ → ℕ) → Found l.self.numbers.now f → l.made ≡ option_map (numbered f) (slice_get (map (λ x. x.now) l.list.items) l.left))

abbrev pub decreases-expr_in-loop-left : goal.decreases-expr_in-loop-left
decreases-expr_in-loop-left l = l.left

abbrev pub invariant-left_in-loop-more : goal.invariant-left_in-loop-more
invariant-left_in-loop-more l =
    (l.more ≤ length l.list.items)
    × ((f : ℕ → ℕ) → Found l.self.numbers.now f → l.made ≡ option_map (numbered_left f) (slice_get (map (λ x. x.now) l.list.items) l.more))

abbrev pub decreases-left_in-loop-more : goal.decreases-left_in-loop-more
decreases-left_in-loop-more l = l.more

abbrev pub invariant-list-loop-e : goal.invariant-list-loop-e
invariant-list-loop-e l = (f : ℕ → ℕ) → Found l.self.numbers.now f → l.made ≡ map (numbered f) (take l.e-index l.list)

abbrev pub invariant-parts-loop-part : goal.invariant-parts-loop-part
invariant-parts-loop-part l = (f : ℕ → ℕ) → Found l.self.numbers.now f → l.made ≡ map (numbered_part f) (take l.part-index l.list)
