use Rattle.std.proofs.Common.{◌≡◌, map, drop}
use Rattle.scc_plain_places.specs.Expressions.{any}
use Rattle.scc_plain_places.specs.Items as spec
use Rattle.scc_plain_places.proofs.items.+items.Given as goal

abbrev pub invariant-in_items-loop-x : goal.invariant-in_items-loop-x
invariant-in_items-loop-x l =
    any (map spec.item (drop l.x-index l.list)) l.place ≡ any (map spec.item l.list) l.place
