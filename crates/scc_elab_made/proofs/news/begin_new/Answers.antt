use Rattle.scc_semantics.specs.Location.{Location}
use Rattle.scc_elab_spec.specs.Grown.{with_made}
use Rattle.std.proofs.Common.{◌≡◌, refl, sym, ap, subst, ◌∙◌, ◌+◌, ◌-◌, length, take, drop, map, true, false, None, Some, [], ◌∷◌, ◌++◌, List}
use Rattle.scc_plain_view.specs.Plains.{plain_of}
use Rattle.scc_elab_store.specs.Locations.{part_of}
use Rattle.scc_elab_grown.specs.Grown.{grown_of}
use Rattle.scc_elab_works.specs.Runs.{now_of}
use Rattle.scc_plain_view.specs.Terms.{argument_of}
use Rattle.scc_elab_works.specs.Works.{at_in, outcome, anew, each_made, led}
use Rattle.scc_elab_made.specs.Objects.{new_made}
use Rattle.scc_elab_spec.specs.Construct.{from_tried, Fell}
use Rattle.scc_elab_made.proofs.Leadings.{new_goes}
use Rattle.scc_elab_made.proofs.Stepping.{steps_to}
use Rattle.scc_elab_made.proofs.news.begin_new.Goals as goal

pub returns : goal.returns
returns c = let P = plain_of c.args.p.now in let a = at_in c.args.at.now in let list = map argument_of c.args.args.now in let path = map part_of c.args.path.now in
    steps_to P c.make_each.result c.make_each.new.works.items (now_of c.make_each.new.m) (outcome P c.put_lead.new.works.items (anew (each_made P c.args.form (record { at = at_in c.in_ok-at.at; list = list }) (grown_of c.note.new.self) path)))
    (outcome P c.args.works.now.items (from_tried (new_made P a c.args.form list path (grown_of c.args.m.now.grown)) (λ k. Fell (led k path c.args.m.now.last))))
    (new_goes P c.args.works.now.items c.put_lead.new.works.items a (at_in c.in_ok-at.at) c.args.form list path (map part_of c.in_ok-own.own.items) (grown_of c.args.m.now.grown) (grown_of c.note.new.self) c.args.m.now.last
    (c.in_ok-at.ensures {u = tt}) (ap (map part_of) (c.in_ok-own.ensures {u = tt})) (c.in_ok-note.ensures {u = tt} ∙ ap (λ (l : Location). with_made (grown_of c.args.m.now.grown) l.path) (c.in_ok-there.ensures {u = tt})) (c.in_ok-put_lead.ensures {u = tt})) c.make_each.ensures
