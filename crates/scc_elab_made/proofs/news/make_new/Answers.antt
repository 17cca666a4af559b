use Rattle.scc_core_spec.specs.Resolved.{Made}
use Rattle.scc_elab_spec.specs.Construct.{Fell, grow, make_at}
use Rattle.scc_elab_spec.specs.Program.{End, Make}
use Rattle.scc_elab_spec.specs.Worth.{at_now}
use Rattle.scc_elab_store.specs.Locations.{location_of}
use Rattle.scc_plain_view.specs.Codes.{base_of}
use Rattle.scc_plain_view.specs.Terms.{left_of}
use Rattle.scc_elab_works.specs.declared.works.Form.{Form}
use Rattle.scc_elab_made.proofs.Stepping.{steps_to}
use Rattle.std.proofs.Common.{◌≡◌, refl, sym, ap, subst, ◌∙◌, ◌+◌, ◌-◌, length, take, drop, map, option_map, true, false, None, Some, [], ◌∷◌, ◌++◌, List}
use Rattle.scc_plain_view.specs.Plains.{plain_of}
use Rattle.scc_elab_grown.specs.Grown.{grown_of}
use Rattle.scc_elab_works.specs.Runs.{now_of}
use Rattle.scc_plain_view.specs.Terms.{argument_of}
use Rattle.scc_elab_works.specs.Works.{at_in, making_at, outcome, run_at, site_at}
use Rattle.scc_elab_made.proofs.Leadings.{made_new, new_stops}
use Rattle.scc_elab_made.proofs.news.make_new.Goals as goal

pub returns-in_ok-is_vector-in-Ok-Some : goal.returns-in_ok-is_vector-in-Ok-Some
returns-in_ok-is_vector-in-Ok-Some c = let P = plain_of c.args.p.now in let a = at_in c.args.at.now in let f : Form = record { is_pointer = false; is_vector = c.in_ok-is_vector-in-Ok-Some.is_vector; base = c.args.base; place = c.args.place } in let list = map argument_of c.args.args.now in
    steps_to P c.new_there.result c.new_there.new.works.items (now_of c.new_there.new.m)
    (outcome P c.args.works.now.items (grow (now_of c.args.m.now) (make_at (making_at P a.levels) (at_now (site_at P a) (grown_of c.args.m.now.grown)) f.place (base_of f.base) f.is_vector list (Some (location_of c.in-Ok-Some.there))) Fell))
    (outcome P c.args.works.now.items (run_at P a (Make f.place (left_of c.args.left.now) (base_of f.base) list End) (now_of c.args.m.now)))
    (made_new P c.args.works.now.items a f list (now_of c.args.m.now) (left_of c.args.left.now) (Some c.in-Ok-Some.there) (c.in-Ok-Some.ensures {u = tt} ∙ ap (λ o. Made (option_map location_of o)) c.in-Ok-Some.field-0-is) (c.in_ok-is_vector-in-Ok-Some.ensures {u = tt})) c.new_there.ensures

pub returns-in-Err : goal.returns-in-Err
returns-in-Err c = new_stops (Unit {0}) (plain_of c.args.p.now) c.in-Err.stop c.args.works.now.items (at_in c.args.at.now) (now_of c.args.m.now) c.args.place (left_of c.args.left.now) (base_of c.args.base) (map argument_of c.args.args.now) c.in-Err.ensures
