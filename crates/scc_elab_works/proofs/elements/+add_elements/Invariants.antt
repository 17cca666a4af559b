use Rattle.std.proofs.Common.{length, ◌≡◌, ◌++◌, ◌-◌, map}
use Rattle.scc_elab_works.specs.Paths.{paths_of}
use Rattle.scc_elab_spec.specs.Made.{elements_at}
use Rattle.scc_elab_store.specs.Locations.{part_of}
use Rattle.scc_elab_works.specs.Paths.{rows}
use Rattle.scc_elab_works.proofs.elements.+add_elements.Given as goal

abbrev pub decreases-add_elements : goal.decreases-add_elements
decreases-add_elements l = length l.sizes.now

abbrev pub invariant-loop-i : goal.invariant-loop-i
invariant-loop-i l = paths_of l.list.items ++ rows (map part_of l.path) l.rest l.i (l.i-end - l.i) ≡ paths_of l.initial.list.items ++ elements_at (map part_of l.path) l.sizes
