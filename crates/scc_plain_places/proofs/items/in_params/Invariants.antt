use Rattle.std.proofs.Common.{◌≡◌, map, drop}
use Rattle.scc_plain_places.specs.Expressions.{any}
use Rattle.scc_plain_places.specs.Items as spec
use Rattle.scc_plain_places.proofs.items.in_params.Given as goal

abbrev pub invariant-loop-x : goal.invariant-loop-x
invariant-loop-x l =
    any (map spec.param (drop l.x-index l.list)) l.place ≡ any (map spec.param l.list) l.place
