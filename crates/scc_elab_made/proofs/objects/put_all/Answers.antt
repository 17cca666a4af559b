use Rattle.std.proofs.Common.{ap, sym, ◌∙◌, map, None}
use Rattle.scc_elab_spec.specs.Construct.{Ran, then_run}
use Rattle.scc_elab_spec.specs.Inits.{inits_of}
use Rattle.scc_elab_spec.specs.Made.{grown_by, made_members, built}
use Rattle.scc_core_spec.specs.Resolved.{and_made}
use Rattle.scc_plain_view.specs.Codes.{code_of}
use Rattle.scc_plain_view.specs.Plains.{member_of}
use Rattle.scc_elab_works.specs.Works.{at_in, anew, outcome, run_at, site_at}
use Rattle.scc_elab_spec.specs.Program.{Plain}
use Rattle.scc_elab_made.specs.Tails.{tails_run}
use Rattle.scc_elab_made.proofs.Making.{puts_after}
use Rattle.scc_elab_made.proofs.Tailing.{tails_are}
use Rattle.scc_elab_made.proofs.objects.put_all.Goals as goal

pub returns : goal.returns
returns c = let inits = λ (p : Plain). run_at p (at_in c.args.at.now) (inits_of None (code_of c.args.inits.now)) in let body = λ (p : Plain). run_at p (at_in c.args.at.now) (code_of c.args.body.now) in
    puts_after c.put_members.result c.args.works.now.items c.put_tails.new.works.items c.put_members.new.works.items (λ p x. anew (grown_by (then_run (then_run x (inits p)) (body p))))
    (λ p x. anew (and_made (grown_by x) (made_members (built p (at_in c.args.at.now).levels) (site_at p (at_in c.args.at.now)) 0 (map member_of c.args.members.now) (code_of c.args.inits.now))))
    (λ p x. c.in_ok-put_tails.ensures p x
    ∙ ap (outcome p c.put_run.new.works.items) (ap (λ ts. tails_run p (at_in c.args.at.now) ts x) (ap (map (λ t. t.now)) c.as_slice.ensures.value ∙ c.in_ok-groups.ensures.none) ∙ tails_are p (at_in c.args.at.now) None c.args.inits.now x)
    ∙ c.in_ok-put_run.ensures p (then_run x (inits p)) ∙ c.in_ok-put_made.ensures p (then_run (then_run x (inits p)) (body p))) (c.put_members.ensures c.args.inits.now c.in_ok-groups.ensures)
