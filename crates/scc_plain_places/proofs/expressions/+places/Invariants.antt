use Rattle.std.proofs.Common.{◌≡◌, map, drop}
use Rattle.scc_plain_places.specs.Expressions.{any}
use Rattle.scc_plain_places.specs.Expressions as spec
use Rattle.scc_plain_places.proofs.expressions.+places.Given as goal

abbrev pub invariant-in_exprs-loop-x : goal.invariant-in_exprs-loop-x
invariant-in_exprs-loop-x l =
    any (map spec.expr (drop l.x-index l.list)) l.place ≡ any (map spec.expr l.list) l.place

abbrev pub invariant-in_links-loop-x : goal.invariant-in_links-loop-x
invariant-in_links-loop-x l =
    any (map spec.link (drop l.x-index l.list)) l.place ≡ any (map spec.link l.list) l.place

abbrev pub invariant-in_parts-loop-x : goal.invariant-in_parts-loop-x
invariant-in_parts-loop-x l =
    any (map spec.part (drop l.x-index l.list)) l.place ≡ any (map spec.part l.list) l.place

abbrev pub invariant-in_args-loop-x : goal.invariant-in_args-loop-x
invariant-in_args-loop-x l =
    any (map spec.arg (drop l.x-index l.list)) l.place ≡ any (map spec.arg l.list) l.place
