use Rattle.scc_elab_worth.specs.declared.args.Given.{Given}
use Rattle.std.proofs.Common.{◌≡◌, refl, sym, ap, subst, ◌∙◌, ◌+◌, ◌-◌, length, take, drop, map, Vec, Global, true, false, None, Some, [], ◌∷◌, ◌++◌, List}
use Rattle.scc_plain_view.specs.Plains.{plain_of}
use Rattle.scc_elab_store.specs.Locations.{part_of}
use Rattle.scc_elab_works.specs.Runs.{now_of}
use Rattle.scc_elab_grown.specs.Grown.{grown_of}
use Rattle.scc_plain_view.specs.Codes.{base_of}
use Rattle.scc_elab_spec.specs.Made.{built, made_vector, last_word}
use Rattle.scc_elab_works.specs.Works.{passed_in, passed_at}
use Rattle.scc_elab_made.proofs.Making.{given_stops}
use Rattle.scc_elab_made.proofs.arrays.begin_vector.Goals as goal

pub returns-in-Err : goal.returns-in-Err
returns-in-Err c = given_stops {X = Vec Given Global} (Unit {0}) (λ v. v.items) (plain_of c.args.p.now) c.in-Err.stop c.args.works.now.items (now_of c.args.m.now) (passed_at (plain_of c.args.p.now) (passed_in c.args.args.now) (grown_of c.args.m.now.grown))
    (λ gs. made_vector (built (plain_of c.args.p.now) (passed_in c.args.args.now).at.levels) (grown_of c.args.m.now.grown) (map part_of c.args.path.now) c.args.form.place (base_of c.args.form.base) (last_word gs)) c.in-Err.ensures
