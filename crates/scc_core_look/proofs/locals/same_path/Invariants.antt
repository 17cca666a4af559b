use Rattle.std.proofs.Common.{◌≡◌, true, take, length}
use Rattle.scc_core_view.specs.Programs.{path_of}
use Rattle.scc_semantics.specs.Location.{same_path}
use Rattle.scc_core_look.proofs.locals.same_path.Given as goal

abbrev pub invariant-loop-i : goal.invariant-loop-i
invariant-loop-i l = (l.same ≡ true → same_path (path_of (take l.i l.a)) (path_of (take l.i l.b)) ≡ true) × (length l.a ≡ length l.b)
