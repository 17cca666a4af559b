use Rattle.std.proofs.Common.{ℕ, List, length, take, drop, slice_index_or, ◌-◌, ◌++◌, map, ap, ◌∙◌}
use Rattle.scc_elab_spec.specs.Made.{elements_at}
use Rattle.scc_elab_works.specs.Paths.{paths_of}
use Rattle.scc_elab_store.specs.Locations.{part_of}
use Rattle.scc_elab_works.proofs.Rows.{first_rows, row_done}
use Rattle.scc_elab_works.proofs.elements.+add_elements.Goals as goal

pub loop-i-init : goal.loop-i-init
loop-i-init t c = first_rows c.args.sizes.now (map part_of c.args.path.now) (paths_of c.args.list.now.items) c.in-len1-up.len_at_least

pub loop-i-preserved : goal.loop-i-preserved
loop-i-preserved t c = row_done (map part_of c.args.path.now) (map part_of c.as_slice.result.now) (take (length c.args.sizes.now - 1) (drop 1 c.args.sizes.now)) (paths_of c.add_elements.new.list.items) (paths_of c.loop-i.list.items)
    (paths_of c.args.list.now.items ++ elements_at (map part_of c.args.path.now) c.args.sizes.now) c.loop-i.i c.from.result (slice_index_or c.args.sizes.now 0 0) c.loop-i-test.true c.from.ensures
    (ap (map part_of) c.as_slice.ensures.value ∙ c.in_ok-part-in-len1-up.ensures) c.in_ok-add_elements-in-len1-up.ensures c.loop-i.invariant
