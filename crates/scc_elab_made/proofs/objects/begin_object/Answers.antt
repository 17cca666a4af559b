use Rattle.std.proofs.Common.{◌≡◌, refl, sym, ap, subst, ◌∙◌, ◌+◌, ◌-◌, length, take, drop, map, true, false, None, Some, [], ◌∷◌, ◌++◌, List}
use Rattle.scc_plain_view.specs.Plains.{plain_of, class_of}
use Rattle.scc_elab_store.specs.Locations.{part_of}
use Rattle.scc_elab_works.specs.Runs.{now_of}
use Rattle.scc_elab_grown.specs.Grown.{grown_of}
use Rattle.scc_elab_spec.specs.Grown.{added}
use Rattle.scc_elab_spec.specs.Made.{built, built_in}
use Rattle.scc_core_spec.specs.Resolved.{and_made}
use Rattle.scc_elab_works.specs.Works.{passed_in, passed_at, outcome, anew}
use Rattle.scc_elab_made.specs.Objects.{object_filled}
use Rattle.scc_elab_spec.specs.Design as design
use Rattle.scc_elab_made.proofs.Making.{filled_is, grows_stops, stopped_as}
use Rattle.scc_elab_made.proofs.Stepping.{steps_to}
use Rattle.scc_elab_made.proofs.objects.begin_object.Goals as goal

pub returns-in-Ok : goal.returns-in-Ok
returns-in-Ok c = let P = plain_of c.args.p.now in let args = passed_at P (passed_in c.args.args.now) in
    steps_to P c.fill_object.result c.fill_object.new.works.items (now_of c.fill_object.new.m)
    (outcome P c.args.works.now.items (anew (object_filled P c.args.levels (class_of c.args.c.now) (map part_of c.args.path.now) args (grown_of c.add_at.new.g))))
    (outcome P c.args.works.now.items (anew (built_in P (built P c.args.levels) (class_of c.args.c.now) c.args.class (grown_of c.args.m.now.grown) (map part_of c.args.path.now) c.args.place c.args.class args)))
    (ap (λ t. outcome P c.args.works.now.items (anew t)) (filled_is P c.args.levels (class_of c.args.c.now) c.args.class (grown_of c.args.m.now.grown) (map part_of c.args.path.now) c.args.place c.args.class args
    ∙ ap (λ t. and_made t (object_filled P c.args.levels (class_of c.args.c.now) (map part_of c.args.path.now) args)) c.in-Ok.ensures)) c.fill_object.ensures

pub returns-in-Err : goal.returns-in-Err
returns-in-Err c = let P = plain_of c.args.p.now in let args = passed_at P (passed_in c.args.args.now) in
    let added_there = added (grown_of c.args.m.now.grown) (map part_of c.args.path.now) c.args.place (design.Module c.args.class) in
    stopped_as (Unit {0}) P c.in-Err.stop c.args.works.now.items (record { grown = grown_of c.add_at.new.g; last = c.args.m.now.last })
    (built_in P (built P c.args.levels) (class_of c.args.c.now) c.args.class (grown_of c.args.m.now.grown) (map part_of c.args.path.now) c.args.place c.args.class args)
    (and_made added_there (object_filled P c.args.levels (class_of c.args.c.now) (map part_of c.args.path.now) args))
    (filled_is P c.args.levels (class_of c.args.c.now) c.args.class (grown_of c.args.m.now.grown) (map part_of c.args.path.now) c.args.place c.args.class args)
    (grows_stops (Unit {0}) P c.in-Err.stop c.args.works.now.items (record { grown = grown_of c.add_at.new.g; last = c.args.m.now.last }) (grown_of c.add_at.new.g) added_there (object_filled P c.args.levels (class_of c.args.c.now) (map part_of c.args.path.now) args) c.in-Err.ensures)
