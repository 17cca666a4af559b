use Rattle.std.proofs.Common.{◌≡◌, map, take}
use Rattle.scc_elab_spec.specs.Elaborated.{kept_part}
use Rattle.scc_elab_store.specs.Locations.{part_of}
use Rattle.scc_plain_view.specs.Designs.{path_of}
use Rattle.scc_elab_left.proofs.paths.kept_path.Given as goal

abbrev pub invariant-loop-part : goal.invariant-loop-part
invariant-loop-part l = path_of l.to ≡ map kept_part (map part_of (take l.part-index l.path))
