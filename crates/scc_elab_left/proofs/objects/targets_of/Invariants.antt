use Rattle.std.proofs.Common.{◌≡◌, ◌++◌, map, drop}
use Rattle.scc_elab_grown.specs.Grown.{grown_of}
use Rattle.scc_elab_spec.specs.Elaborated.{targets_left}
use Rattle.scc_plain_view.specs.Designs.{target_of}
use Rattle.scc_elab_left.proofs.objects.targets_of.Given as goal

abbrev pub invariant-loop-number : goal.invariant-loop-number
invariant-loop-number l = map target_of l.list ++ targets_left (grown_of l.g) l.number (drop l.number (grown_of l.g).objects) ≡ targets_left (grown_of l.g) 0 (grown_of l.g).objects
