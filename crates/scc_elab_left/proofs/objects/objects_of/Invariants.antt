use Rattle.std.proofs.Common.{◌≡◌, ◌++◌, map, drop}
use Rattle.scc_elab_grown.specs.Grown.{grown_of}
use Rattle.scc_elab_spec.specs.Elaborated.{objects_left}
use Rattle.scc_plain_view.specs.Designs.{object_of}
use Rattle.scc_elab_left.proofs.objects.objects_of.Given as goal

abbrev pub invariant-loop-number : goal.invariant-loop-number
invariant-loop-number l = map object_of l.list ++ objects_left (grown_of l.g) l.number (drop l.number (grown_of l.g).objects) ≡ objects_left (grown_of l.g) 0 (grown_of l.g).objects
