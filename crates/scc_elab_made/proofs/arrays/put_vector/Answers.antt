use Rattle.std.proofs.Common.{◌≡◌, refl, sym, ap, subst, ◌∙◌, ◌+◌, ◌-◌, length, take, drop, map, true, false, None, Some, [], ◌∷◌, ◌++◌, List}
use Rattle.scc_elab_store.specs.Locations.{part_of}
use Rattle.scc_elab_grown.specs.Grown.{grown_of}
use Rattle.scc_elab_made.proofs.Making.{vector_begins}
use Rattle.scc_elab_made.proofs.arrays.put_vector.Goals as goal

pub returns : goal.returns
returns c = vector_begins c.push.result c.args.works.now.items c.push.new.items.items (record { levels = c.args.levels; path = c.in_ok-path.path; next = 0; count = c.min-count.result; base = c.args.form.base; place = c.args.form.place }) (grown_of c.args.m.now.grown) (grown_of c.add_vector.new.self)
    (map part_of c.args.path.now) (map part_of c.in_ok-at.at.items) c.args.size c.if-size-eq0.false c.in_ok-add_vector.ensures c.push.ensures.ok (ap (map part_of) c.in_ok-path.ensures) (ap (map part_of) c.in_ok-at.ensures) refl c.min-count.ensures
