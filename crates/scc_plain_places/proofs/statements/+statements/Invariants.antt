use Rattle.std.proofs.Common.{◌≡◌, map, drop}
use Rattle.scc_plain_places.specs.Expressions.{any}
use Rattle.scc_plain_places.specs.Statements as spec
use Rattle.scc_plain_places.proofs.statements.+statements.Given as goal

abbrev pub invariant-in_stmts-loop-x : goal.invariant-in_stmts-loop-x
invariant-in_stmts-loop-x l =
    any (map spec.stmt (drop l.x-index l.list)) l.place ≡ any (map spec.stmt l.list) l.place

abbrev pub invariant-in_switch_items-loop-x : goal.invariant-in_switch_items-loop-x
invariant-in_switch_items-loop-x l =
    any (map spec.switch_item (drop l.x-index l.list)) l.place ≡ any (map spec.switch_item l.list) l.place
