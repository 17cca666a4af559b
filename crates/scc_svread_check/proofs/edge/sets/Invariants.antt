use Rattle.std.proofs.Common.{◌≡◌, [], drop}
use Rattle.scc_svread_check.specs.Drivers.{sets_names}
use Rattle.scc_svread_check.proofs.edge.sets.Given as goal

abbrev pub invariant-loop-s : goal.invariant-loop-s
invariant-loop-s l = sets_names l.f l.taken l.before (drop l.s-index l.list) l.n l.walk ≡ sets_names l.f l.taken [] l.list l.n l.fn.w
