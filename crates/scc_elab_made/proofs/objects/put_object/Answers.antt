use Rattle.scc_elab_spec.specs.Made.{nowhere}
use Rattle.scc_elab_spec.specs.Program.{End}
use Rattle.std.proofs.Common.{◌≡◌, refl, sym, ap, subst, ◌∙◌, ◌+◌, ◌-◌, length, take, drop, map, true, false, None, Some, [], ◌∷◌, ◌++◌, List}
use Rattle.scc_plain_view.specs.Codes.{code_of}
use Rattle.scc_plain_view.specs.Plains.{member_of, function_of}
use Rattle.scc_elab_works.specs.Works.{at_in, function_there}
use Rattle.scc_elab_made.proofs.Making.{object_put}
use Rattle.scc_elab_made.proofs.objects.put_object.Goals as goal

pub returns-in-Some : goal.returns-in-Some
returns-in-Some c = object_put c.put_all.result c.args.works.now.items c.put_all.new.works.items (at_in c.args.at.now) (function_of c.in-Some.f.now) (map member_of c.args.c.now.members) (map member_of c.as_slice.result.now) (code_of c.as_slice-in-Some.result.now) (code_of c.as_slice-in-Some-2.result.now)
    (ap function_there c.in-Some.is) (ap code_of c.as_slice-in-Some.ensures.elements) (ap code_of c.as_slice-in-Some-2.ensures.elements) (ap (map member_of) c.as_slice.ensures.elements) c.put_all.ensures

pub returns-in-None : goal.returns-in-None
returns-in-None c = object_put c.put_all-in-None.result c.args.works.now.items c.put_all-in-None.new.works.items (at_in c.args.at.now) nowhere (map member_of c.args.c.now.members) (map member_of c.as_slice-in-None.result.now) End End
    (ap function_there c.in-None.is) refl refl (ap (map member_of) c.as_slice-in-None.ensures.elements) c.put_all-in-None.ensures
