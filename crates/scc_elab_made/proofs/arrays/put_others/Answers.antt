use Rattle.std.proofs.Common.{◌≡◌, refl, sym, ap, subst, ◌∙◌, ◌+◌, ◌-◌, length, take, drop, map, true, false, None, Some, [], ◌∷◌, ◌++◌, List}
use Rattle.scc_elab_store.specs.Locations.{part_of}
use Rattle.scc_elab_works.specs.Works.{passed_in}
use Rattle.scc_elab_made.proofs.Making.{elements_put}
use Rattle.scc_elab_made.proofs.arrays.put_others.Goals as goal

pub returns : goal.returns
returns c = elements_put c.push.result c.args.works.now.items c.push.new.items.items (record { form = c.args.e.now.form; args = c.in_ok-args.args; path = c.in_ok-path.path; sizes = c.args.e.now.sizes; next = c.args.next; count = c.args.count }) (passed_in c.args.e.now.args) (map part_of c.args.e.now.path.items)
    c.push.ensures.ok c.in_ok-args.ensures (ap (map part_of) (c.in_ok-path.ensures ∙ c.as_slice.ensures.value))
