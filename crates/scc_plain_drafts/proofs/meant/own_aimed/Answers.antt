use Rattle.std.proofs.Common.{sym, ◌∙◌, ap, subst}
use Rattle.scc_elab_spec.specs.Term.{Address}
use Rattle.scc_templates_spec.specs.Walked.{pure}
use Rattle.scc_plain_spec.specs.Forms as spec
use Rattle.scc_plain_drafts.specs.Forms.{AreTold, form_in}
use Rattle.scc_plain_drafts.specs.Meaning.{owner_in}
use Rattle.scc_plain_drafts.specs.Picks.{OwnTold}
use Rattle.scc_plain_drafts.proofs.Picking.{own_flat, own_unlike, own_like}
use Rattle.scc_plain_drafts.proofs.meant.own_aimed.Goals as goal

pub returns-then-not-is_pointer-clause-is : goal.returns-then-not-is_pointer-clause-is
returns-then-not-is_pointer-clause-is c = λ n t. rw c.refuse.ensures.is (own_flat n c.args.place (owner_in n c.args.own) c.args.form (sym (c.is_pointer.ensures n) ∙ c.if-not-is_pointer.true))

pub returns-then-not-is_like-clause-is : goal.returns-then-not-is_like-clause-is
returns-then-not-is_like-clause-is c = λ n t.
    let w = sym (c.is_pointer.ensures n) ∙ c.if-not-is_pointer.false in
    let told = subst (λ b. AreTold n c.args.form.base b) (sym c.direct.ensures.base) (subst (λ o. OwnTold n c.args.form o) c.in-Some.is t) in
    rw (c.in-Some.is, c.refuse-then-not-is_like.ensures.is) (own_unlike n c.args.place c.args.form c.in-Some.i w
    (sym (ap (λ g. spec.is_like (form_in n c.args.form) g) (c.direct.ensures.form n)) ∙ sym (c.is_like.ensures n told) ∙ c.if-not-is_like.true))

pub returns-clause-is : goal.returns-clause-is
returns-clause-is c = λ n t.
    let w = sym (c.is_pointer.ensures n) ∙ c.if-not-is_pointer.false in
    let told = subst (λ b. AreTold n c.args.form.base b) (sym c.direct.ensures.base) (subst (λ o. OwnTold n c.args.form o) c.in-Some.is t) in
    rw c.in-Some.is (own_like n c.args.place c.args.form c.in-Some.i w
    (sym (ap (λ g. spec.is_like (form_in n c.args.form) g) (c.direct.ensures.form n)) ∙ sym (c.is_like.ensures n told) ∙ c.if-not-is_like.false)
    ∙ ap (λ l. pure (Address l)) (sym (ap (λ t. t.left) c.own_object.ensures)))
