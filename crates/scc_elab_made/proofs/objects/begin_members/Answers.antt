use Rattle.scc_elab_spec.specs.Made as spec
use Rattle.std.proofs.Common.{◌≡◌, refl, sym, ap, subst, ◌∙◌, ◌+◌, ◌-◌, length, take, drop, map, true, false, None, Some, [], ◌∷◌, ◌++◌, List}
use Rattle.scc_plain_view.specs.Plains.{plain_of, class_of}
use Rattle.scc_elab_store.specs.Locations.{part_of}
use Rattle.scc_elab_grown.specs.Grown.{grown_of}
use Rattle.scc_elab_worth.specs.Arguments.{given_in}
use Rattle.scc_elab_works.specs.Runs.{now_of}
use Rattle.scc_elab_works.specs.Works.{at_in, function_there}
use Rattle.scc_elab_made.proofs.Making.{object_begins}
use Rattle.scc_elab_made.proofs.objects.begin_members.Goals as goal

pub returns : goal.returns
returns c = let P = plain_of c.args.p.now in
    object_begins c.put_object.result P c.args.works.now.items c.put_object.new.works.items c.args.levels (spec.function_of P (class_of c.args.c.now)) (class_of c.args.c.now).members (map part_of c.args.path.now) (grown_of c.args.m.now.grown) (grown_of c.pass_there.new.g) (map given_in c.args.list.now)
    (record { function = function_there c.constructor_of-function.result; object = c.newest-object.result; path = map part_of c.in_ok-path.path.items; levels = c.args.levels }) c.args.m.now.last
    c.constructor_of-function.ensures c.newest-object.ensures (ap (map part_of) (c.in_ok-path.ensures {u = tt})) refl c.in_ok-pass_there.ensures c.put_object.ensures
