use Rattle.std.proofs.Common.{sym, ap, ◌∙◌, []}
use Rattle.scc_elab_grown.specs.Grown.{grown_of}
use Rattle.scc_elab_spec.specs.Construct.{Fell}
use Rattle.scc_elab_spec.specs.Made.{built, none_given}
use Rattle.scc_plain_view.specs.Plains.{plain_of}
use Rattle.scc_elab_works.specs.Runs.{now_of}
use Rattle.scc_elab_works.specs.Works.{anew, outcome}
use Rattle.scc_elab_made.proofs.Making.{anew_grown, leaves_as}
use Rattle.scc_elab_made.proofs.top.make_top.Goals as goal

pub returns-in-Ok : goal.returns-in-Ok
returns-in-Ok c = let P = plain_of c.args.p.now in let made = built P c.args.levels (grown_of c.args.m.now.grown) [] c.args.place c.args.p.now.top none_given in
    leaves_as c.run.result (grown_of c.run.new.m.grown) (outcome P c.make_object.new.works.items (Fell (now_of c.make_object.new.m))) made
    (sym (anew_grown made) ∙ ap (λ ws. outcome P ws (anew made)) (sym c.new-works.ensures.items) ∙ c.in-Ok.ensures {u = tt}) c.run.ensures
