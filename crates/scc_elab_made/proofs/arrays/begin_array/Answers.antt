use Rattle.std.proofs.Common.{◌≡◌, refl, sym, ap, subst, ◌∙◌, ◌+◌, ◌-◌, length, take, drop, map, slice_index_or, true, false, None, Some, [], ◌∷◌, ◌++◌, List}
use Rattle.scc_plain_view.specs.Plains.{plain_of}
use Rattle.scc_elab_store.specs.Locations.{part_of}
use Rattle.scc_elab_grown.specs.Grown.{grown_of}
use Rattle.scc_elab_works.specs.Runs.{now_of}
use Rattle.scc_elab_works.specs.Works.{passed_in, outcome, anew, each_made, array_made}
use Rattle.scc_elab_spec.specs.Made.{elements_at}
use Rattle.scc_elab_made.proofs.Making.{array_one, array_rows}
use Rattle.scc_elab_works.proofs.Rows.{empty_is, first_is}
use Rattle.scc_elab_made.proofs.Stepping.{steps_to}
use Rattle.scc_elab_made.proofs.arrays.begin_array.Goals as goal

pub returns-in-empty : goal.returns-in-empty
returns-in-empty c = let P = plain_of c.args.p.now in let q = passed_in c.args.a.now.args in
    steps_to P c.make_each.result c.make_each.new.works.items (now_of c.make_each.new.m) (outcome P c.args.works.now.items (anew (each_made P c.args.a.now.form q (grown_of c.args.m.now.grown) (map part_of c.as_slice.result.now))))
    (outcome P c.args.works.now.items (anew (array_made P c.args.a.now.form q (elements_at (map part_of c.args.a.now.path.items) c.args.a.now.sizes.now) (grown_of c.args.m.now.grown))))
    (ap (λ t. outcome P c.args.works.now.items (anew t)) (array_one P c.args.a.now.form q (map part_of c.args.a.now.path.items) c.args.a.now.sizes.now (map part_of c.as_slice.result.now) (grown_of c.args.m.now.grown) (empty_is c.args.a.now.sizes.now c.in-empty.len_below) (ap (map part_of) c.as_slice.ensures.value))) c.make_each.ensures

pub returns-in_ok-put_elements-in-len1-up : goal.returns-in_ok-put_elements-in-len1-up
returns-in_ok-put_elements-in-len1-up c = array_rows (plain_of c.args.p.now) c.args.a.now.form (passed_in c.args.a.now.args) (map part_of c.args.a.now.path.items) c.args.works.now.items c.put_elements.new.works.items c.args.a.now.sizes.now (take (length c.args.a.now.sizes.now - 1) (drop 1 c.args.a.now.sizes.now)) (slice_index_or c.args.a.now.sizes.now 0 0) (now_of c.args.m.now)
    (first_is c.args.a.now.sizes.now c.in-len1-up.len_at_least) c.in_ok-put_elements-in-len1-up.ensures
