use Rattle.std.proofs.Common.{◌≡◌, refl, sym, ap, subst, ◌∙◌, ◌+◌, ◌-◌, length, take, drop, map, true, false, None, Some, [], ◌∷◌, ◌++◌, List}
use Rattle.scc_plain_view.specs.Plains.{plain_of}
use Rattle.scc_elab_grown.specs.Grown.{grown_of}
use Rattle.scc_elab_store.specs.Locations.{part_of}
use Rattle.scc_elab_spec.specs.Grown.{added}
use Rattle.scc_elab_spec.specs.Design as design
use Rattle.scc_elab_made.proofs.Making.{grows_anew}
use Rattle.scc_elab_made.proofs.arrays.make_pointer.Goals as goal

pub returns : goal.returns
returns c = grows_anew (plain_of c.args.p.now) c.add_at.result c.args.works.now.items (grown_of c.add_at.new.g) (added (grown_of c.args.m.now.grown) (map part_of c.args.path.now) c.args.form.place (design.Pointer None)) c.add_at.ensures
