use Rattle.std.proofs.Common.{◌≡◌, map, drop}
use Rattle.scc_plain_places.specs.Expressions.{any}
use Rattle.scc_plain_places.specs.Statements as spec
use Rattle.scc_plain_places.proofs.statements.in_local_decls.Given as goal

abbrev pub invariant-loop-x : goal.invariant-loop-x
invariant-loop-x l =
    any (map spec.local_decl (drop l.x-index l.list)) l.place ≡ any (map spec.local_decl l.list) l.place
