use Rattle.std.specs.Option.{option_copied}
use Rattle.scc_elab_spec.specs.Made.{built, built_in}
use Rattle.scc_plain_view.specs.Plains.{class_of}
use Rattle.std.proofs.Common.{◌≡◌, refl, sym, ap, subst, ◌∙◌, ◌+◌, ◌-◌, length, take, drop, map, true, false, None, Some, [], ◌∷◌, ◌++◌, List}
use Rattle.scc_plain_view.specs.Plains.{plain_of}
use Rattle.scc_elab_store.specs.Locations.{part_of}
use Rattle.scc_elab_grown.specs.Grown.{grown_of}
use Rattle.scc_elab_works.specs.Runs.{now_of}
use Rattle.scc_elab_works.specs.Works.{passed_in, passed_at, outcome, anew}
use Rattle.scc_base.specs.declared.code.Code.TheVariants as reason
use Rattle.scc_core_spec.specs.First.{refused}
use Rattle.scc_elab_made.proofs.Making.{built_zero, built_some, built_none}
use Rattle.scc_elab_made.proofs.Stepping.{steps_refused, steps_to, one_less}
use Rattle.scc_elab_made.proofs.objects.make_object.Goals as goal

pub returns-then-args-eq0 : goal.returns-then-args-eq0
returns-then-args-eq0 c = let P = plain_of c.args.p.now in let args = passed_at P (passed_in c.args.args.now) in
    steps_refused (Unit {0}) P c.refused.result (refused reason.TooManyObjects c.args.place) c.args.works.now.items (now_of c.args.m.now) (outcome P c.args.works.now.items (anew (built P c.args.args.now.at.levels (grown_of c.args.m.now.grown) (map part_of c.args.path.now) c.args.place c.args.class args)))
    c.refused.ensures (built_zero P c.args.args.now.at.levels c.args.class c.args.works.now.items (grown_of c.args.m.now.grown) (map part_of c.args.path.now) c.args.place args c.if-args-eq0.true)

pub returns-in-Some : goal.returns-in-Some
returns-in-Some c = let P = plain_of c.args.p.now in let args = passed_at P (passed_in c.args.args.now) in let l = c.args.args.now.at.levels in
    steps_to P c.begin_object.result c.begin_object.new.works.items (now_of c.begin_object.new.m)
    (outcome P c.args.works.now.items (anew (built_in P (built P (l - 1)) (class_of c.in-Some.c.now) c.args.class (grown_of c.args.m.now.grown) (map part_of c.args.path.now) c.args.place c.args.class args)))
    (outcome P c.args.works.now.items (anew (built P l (grown_of c.args.m.now.grown) (map part_of c.args.path.now) c.args.place c.args.class args)))
    (ap (λ t. outcome P c.args.works.now.items (anew t)) (built_some c.args.p.now l (l - 1) c.args.class c.in-Some.c.now (grown_of c.args.m.now.grown) (map part_of c.args.path.now) c.args.place args (one_less l c.if-args-eq0.false) (sym c.get.ensures.element ∙ ap option_copied c.in-Some.is))) c.begin_object.ensures

pub returns-in-None : goal.returns-in-None
returns-in-None c = let P = plain_of c.args.p.now in let args = passed_at P (passed_in c.args.args.now) in let l = c.args.args.now.at.levels in
    ap (λ t. outcome P c.args.works.now.items (anew t)) (built_none c.args.p.now l (l - 1) c.args.class (grown_of c.args.m.now.grown) (map part_of c.args.path.now) c.args.place args (one_less l c.if-args-eq0.false) (sym c.get.ensures.element ∙ ap option_copied c.in-None.is))
