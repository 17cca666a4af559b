use Rattle.std.proofs.Common.{◌≡◌, refl, sym, ap, subst, ◌∙◌, ◌+◌, ◌-◌, length, take, drop, map, true, false, None, Some, [], ◌∷◌, ◌++◌, List}
use Rattle.scc_plain_view.specs.Plains.{plain_of}
use Rattle.scc_elab_grown.specs.Grown.{grown_of}
use Rattle.scc_elab_store.specs.Locations.{part_of}
use Rattle.scc_plain_view.specs.Codes.{base_of}
use Rattle.scc_elab_spec.specs.Made.{made_one, built}
use Rattle.scc_elab_works.specs.Works.{passed_in, passed_at}
use Rattle.scc_elab_made.proofs.Making.{grows_anew}
use Rattle.scc_elab_made.proofs.objects.make_plain.Goals as goal

pub returns : goal.returns
returns c = grows_anew (plain_of c.args.p.now) c.make_thing.result c.args.works.now.items (grown_of c.make_thing.new.g) (made_one (built (plain_of c.args.p.now) (passed_in c.args.args.now).at.levels) (grown_of c.args.m.now.grown) (map part_of c.args.path.now) c.args.place (base_of c.args.base) (passed_at (plain_of c.args.p.now) (passed_in c.args.args.now))) c.make_thing.ensures
