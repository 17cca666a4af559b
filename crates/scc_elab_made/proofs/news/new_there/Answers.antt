use Rattle.scc_base.specs.declared.code.Code.TheVariants as reason
use Rattle.scc_core_spec.specs.First.{refused}
use Rattle.scc_elab_spec.specs.Construct.{Fell, from_tried, grow, made_at}
use Rattle.scc_elab_spec.specs.Worth.{at_now}
use Rattle.scc_elab_store.specs.declared.locations.Part.{Part}
use Rattle.scc_elab_store.specs.Locations.{location_of, part_of}
use Rattle.scc_plain_view.specs.Codes.{base_of}
use Rattle.scc_elab_made.specs.Objects.{new_made}
use Rattle.scc_elab_made.proofs.Stepping.{steps_refused, steps_to}
use Rattle.std.proofs.Common.{◌≡◌, refl, sym, ap, subst, ◌∙◌, ◌+◌, ◌-◌, length, take, drop, map, is_some, true, false, None, Some, [], ◌∷◌, ◌++◌, List}
use Rattle.scc_plain_view.specs.Plains.{plain_of}
use Rattle.scc_elab_grown.specs.Grown.{grown_of}
use Rattle.scc_elab_works.specs.Runs.{now_of}
use Rattle.scc_plain_view.specs.Terms.{argument_of}
use Rattle.scc_elab_works.specs.Works.{at_in, led, making_at, outcome, site_at}
use Rattle.scc_elab_made.proofs.Leadings.{local_new, new_twice, new_begins}
use Rattle.scc_elab_made.proofs.news.new_there.Goals as goal

pub returns-then-is_some : goal.returns-then-is_some
returns-then-is_some c = let P = plain_of c.args.p.now in let a = at_in c.args.at.now in steps_refused (Unit {0}) P c.refused.result (refused reason.Constructor c.args.form.place) c.args.works.now.items (now_of c.args.m.now) (outcome P c.args.works.now.items (grow (now_of c.args.m.now) (made_at (making_at P a.levels) (at_now (site_at P a) (grown_of c.args.m.now.grown)) c.args.form.place (base_of c.args.form.base) c.args.form.is_vector (map argument_of c.args.args.now) (location_of c.args.there.now) (location_of c.args.there.now).root) Fell))
    c.refused.ensures (local_new P c.args.works.now.items a c.args.form (map argument_of c.args.args.now) (now_of c.args.m.now) c.args.there.now (sym c.is_some.ensures ∙ c.if-is_some.true))

pub returns-then-has : goal.returns-then-has
returns-then-has c = let P = plain_of c.args.p.now in let a = at_in c.args.at.now in steps_refused (Unit {0}) P c.refused-then-has.result (refused reason.Constructor c.args.form.place) c.args.works.now.items (now_of c.args.m.now) (outcome P c.args.works.now.items (grow (now_of c.args.m.now) (made_at (making_at P a.levels) (at_now (site_at P a) (grown_of c.args.m.now.grown)) c.args.form.place (base_of c.args.form.base) c.args.form.is_vector (map argument_of c.args.args.now) (location_of c.args.there.now) (location_of c.args.there.now).root) Fell))
    c.refused-then-has.ensures (new_twice P c.args.works.now.items a c.args.form (map argument_of c.args.args.now) (now_of c.args.m.now) c.args.there.now (sym c.is_some.ensures ∙ c.if-is_some.false) (sym (ap is_some c.pointer.ensures) ∙ c.if-is_none.ensures {u = tt}) (sym c.has.ensures ∙ c.if-has.true))

pub returns : goal.returns
returns c = let P = plain_of c.args.p.now in let a = at_in c.args.at.now in let begun = λ (w : List Part). outcome P c.args.works.now.items (from_tried (new_made P a c.args.form (map argument_of c.args.args.now) (map part_of w) (grown_of c.args.m.now.grown)) (λ g. Fell (led g (map part_of w) c.args.m.now.last))) in
    steps_to P c.begin_new.result c.begin_new.new.works.items (now_of c.begin_new.new.m) (begun c.as_slice.result.now) (outcome P c.args.works.now.items (grow (now_of c.args.m.now) (made_at (making_at P a.levels) (at_now (site_at P a) (grown_of c.args.m.now.grown)) c.args.form.place (base_of c.args.form.base) c.args.form.is_vector (map argument_of c.args.args.now) (location_of c.args.there.now) (location_of c.args.there.now).root) Fell))
    (new_begins P c.args.works.now.items a c.args.form (map argument_of c.args.args.now) (now_of c.args.m.now) c.args.there.now (sym c.is_some.ensures ∙ c.if-is_some.false) (sym (ap is_some c.pointer.ensures) ∙ c.if-is_none.ensures {u = tt}) (sym c.has.ensures ∙ c.if-has.false) c.requires ∙ ap begun (sym c.as_slice.ensures.value)) c.begin_new.ensures
