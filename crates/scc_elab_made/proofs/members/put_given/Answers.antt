use Rattle.std.proofs.Common.{map, false, [], ◌∷◌, ◌++◌, ◌∙◌}
use Rattle.scc_elab_spec.specs.Made.{grown_by, elements_at}
use Rattle.scc_core_spec.specs.Resolved.{and_made}
use Rattle.scc_plain_view.specs.Plains.{member_of}
use Rattle.scc_plain_view.specs.Terms.{argument_of}
use Rattle.scc_elab_works.specs.Works.{at_in, anew, array_made}
use Rattle.scc_elab_made.specs.Objects.{form_in}
use Rattle.scc_elab_made.specs.Tails.{fillers_run}
use Rattle.scc_semantics.specs.Location.{Member}
use Rattle.scc_elab_made.proofs.Making.{puts_after}
use Rattle.scc_elab_made.proofs.members.put_given.Goals as goal

pub returns : goal.returns
returns c = puts_after c.put_made.result c.args.works.now.items c.put_fillers.new.works.items c.put_made.new.works.items
    (λ p x. anew (and_made (grown_by (fillers_run p (at_in c.args.at.now) (map (λ t. t.now) c.args.tails.now) x)) (array_made p (form_in c.args.k.now false) (record { at = at_in c.args.at.now; list = map argument_of c.args.args.now }) (elements_at ((at_in c.args.at.now).path ++ Member (member_of c.args.k.now).name ∷ []) (member_of c.args.k.now).shape.sizes))))
    (λ p x. anew (grown_by x)) (λ p x. c.in_ok-put_fillers.ensures p x ∙ c.in_ok-put_things.ensures p (fillers_run p (at_in c.args.at.now) (map (λ t. t.now) c.args.tails.now) x)) c.put_made.ensures
