use Rattle.std.proofs.Common.{◌≡◌, drop}
use Rattle.scc_elab_grown.specs.Grown.{grown_of}
use Rattle.scc_elab_works.specs.Paths.{all_cleared, paths_of}
use Rattle.scc_elab_works.proofs.locals.clear_all.Given as goal

abbrev pub invariant-loop-path : goal.invariant-loop-path
invariant-loop-path l = all_cleared l.direct l.of.object l.of.local (paths_of (drop l.path-index l.paths)) (grown_of l.g) ≡ all_cleared l.direct l.of.object l.of.local (paths_of l.paths) (grown_of l.initial.g)
