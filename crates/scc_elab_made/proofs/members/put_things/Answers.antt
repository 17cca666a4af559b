use Rattle.scc_plain_view.specs.Terms.{argument_of}
use Rattle.scc_semantics.specs.Location.{Member}
use Rattle.std.proofs.Common.{◌≡◌, refl, sym, ap, subst, ◌∙◌, ◌+◌, ◌-◌, length, take, drop, map, true, false, None, Some, [], ◌∷◌, ◌++◌, List}
use Rattle.scc_elab_store.specs.Locations.{part_of}
use Rattle.scc_elab_spec.specs.Made.{elements_at}
use Rattle.scc_plain_view.specs.Plains.{member_of}
use Rattle.scc_elab_works.specs.Works.{at_in, passed_in}
use Rattle.scc_elab_made.specs.Objects.{form_in}
use Rattle.scc_elab_made.proofs.Making.{things_as}
use Rattle.scc_elab_made.proofs.members.put_things.Goals as goal

pub returns : goal.returns
returns c = things_as c.put_array.result c.args.works.now.items c.put_array.new.works.items c.form_of.result (form_in c.args.k.now c.args.is_pointer) (passed_in (record { at = c.in_ok-at.at; list = c.args.args })) (record { at = at_in c.args.at.now; list = map argument_of c.args.args.now })
    (elements_at (map part_of c.in_ok-path.path.items) c.as_slice-2.result.now) (elements_at ((at_in c.args.at.now).path ++ Member (member_of c.args.k.now).name ∷ []) (member_of c.args.k.now).shape.sizes)
    c.form_of.ensures (λ i. record { at = c.in_ok-at.ensures {u = tt} i; list = map argument_of c.args.args.now })
    (λ i. elements_at ((c.in_ok-path.ensures {u = tt} ∙ ap (λ w. map part_of w ++ Member (member_of c.args.k.now).name ∷ []) c.as_slice.ensures.value) i) (c.as_slice-2.ensures.elements i)) c.put_array.ensures
