use Rattle.std.proofs.Common.{◌≡◌, ◌≤◌, ◌+◌, ◌*◌, ◌++◌, flat_map, map, take, length, slice_get}
use Rattle.scc_core_spec.specs.Uses.{loads}
use Rattle.scc_core_view.specs.Terms.{term_of}
use Rattle.scc_rules_walks.specs.Loads.{all_loads, first_loads, index_loads, uses_of}
use Rattle.scc_rules_walks.proofs.loads.+loads.Given as goal

abbrev pub decreases-loads_of : goal.decreases-loads_of
decreases-loads_of l = 8 * l.levels

abbrev pub decreases-each_of : goal.decreases-each_of
decreases-each_of l = 8 * l.levels + 1

abbrev pub decreases-of_pick : goal.decreases-of_pick
decreases-of_pick l = 8 * l.levels + 1

abbrev pub decreases-bits_of : goal.decreases-bits_of
decreases-bits_of l = 8 * l.levels + 2

abbrev pub decreases-of_bits : goal.decreases-of_bits
decreases-of_bits l = 8 * l.levels + 2

abbrev pub decreases-of_part : goal.decreases-of_part
decreases-of_part l = 8 * l.levels + 1

abbrev pub decreases-of_parts : goal.decreases-of_parts
decreases-of_parts l = 8 * l.levels + 2

abbrev pub decreases-inside_of : goal.decreases-inside_of
decreases-inside_of l = 8 * l.levels + 3

abbrev pub decreases-beside : goal.decreases-beside
decreases-beside l = 8 * l.levels + 4

abbrev pub invariant-loads_of-loop-left : goal.invariant-loads_of-loop-left
invariant-loads_of-loop-left l =
    (l.left ≤ length l.list.items)
    × (uses_of l.out.items ≡ uses_of l.initial.out.items ++ first_loads (slice_get (map (λ x. x.now) l.list.items) l.left))

abbrev pub decreases-loads_of-loop-left : goal.decreases-loads_of-loop-left
decreases-loads_of-loop-left l = l.left

abbrev pub invariant-each_of-loop-part : goal.invariant-each_of-loop-part
invariant-each_of-loop-part l = uses_of l.out.items ≡ uses_of l.initial.out.items ++ all_loads (take l.part-index l.parts)

abbrev pub invariant-of_parts-loop-part : goal.invariant-of_parts-loop-part
invariant-of_parts-loop-part l = uses_of l.out.items ≡ uses_of l.initial.out.items ++ flat_map index_loads (take l.part-index l.parts)
