use Rattle.std.proofs.Common.{◌≡◌, [], drop}
use Rattle.scc_svread_check.specs.Drivers.{loads_names}
use Rattle.scc_svread_check.proofs.edge.loads.Given as goal

abbrev pub invariant-loop-l : goal.invariant-loop-l
invariant-loop-l l = loads_names l.f l.taken l.before l.rest (drop l.l-index l.list) l.n l.walk ≡ loads_names l.f l.taken [] l.sets l.list l.n l.fn.w
