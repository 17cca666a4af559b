use Rattle.std.proofs.Common.{◌≡◌, map, take}
use Rattle.scc_elab_store.specs.Locations.{part_of}
use Rattle.scc_plain_view.specs.Designs.{path_of}
use Rattle.scc_elab_left.proofs.paths.path_in.Given as goal

abbrev pub invariant-loop-part : goal.invariant-loop-part
invariant-loop-part l = path_of l.to ≡ map part_of (take l.part-index l.path)
