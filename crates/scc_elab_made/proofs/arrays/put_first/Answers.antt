use Rattle.std.proofs.Common.{◌≡◌, refl, sym, ap, subst, ◌∙◌, ◌+◌, ◌-◌, length, take, drop, map, true, false, None, Some, [], ◌∷◌, ◌++◌, List}
use Rattle.scc_elab_store.specs.Locations.{part_of}
use Rattle.scc_semantics.specs.Location.{Element}
use Rattle.scc_elab_spec.specs.Made.{elements_at}
use Rattle.scc_elab_works.specs.Works.{passed_in}
use Rattle.scc_elab_made.proofs.Making.{things_as}
use Rattle.scc_elab_made.proofs.arrays.put_first.Goals as goal

pub returns : goal.returns
returns c = things_as c.put_array.result c.args.works.now.items c.put_array.new.works.items c.args.e.now.form c.args.e.now.form (passed_in c.in_ok-args.args) (passed_in c.args.e.now.args) (elements_at (map part_of c.in_ok-path.path.items) c.args.e.now.sizes.now) (elements_at (map part_of c.args.e.now.path.items ++ Element c.args.e.now.next ∷ []) c.args.e.now.sizes.now)
    refl c.in_ok-args.ensures (ap (λ w. elements_at w c.args.e.now.sizes.now) (c.in_ok-path.ensures ∙ (λ i. map part_of (c.as_slice.ensures.value i) ++ Element (c.from.ensures i) ∷ []))) c.put_array.ensures
