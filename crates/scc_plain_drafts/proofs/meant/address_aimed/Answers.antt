use Rattle.std.proofs.Common.{sym, ◌∙◌}
use Rattle.scc_plain_drafts.proofs.Picking.{at_flat, at_pointer, at_unlike, at_like}
use Rattle.scc_plain_drafts.proofs.meant.address_aimed.Goals as goal

pub returns-then-not-is_pointer-clause-is : goal.returns-then-not-is_pointer-clause-is
returns-then-not-is_pointer-clause-is c = λ n o t. rw c.refuse.ensures.is (at_flat n c.args.place o c.args.l c.args.form (sym (c.is_pointer.ensures n) ∙ c.if-not-is_pointer.true))

pub returns-then-leads-clause-is : goal.returns-then-leads-clause-is
returns-then-leads-clause-is c = λ n o t. rw c.refuse-then-leads.ensures.is (at_pointer n c.args.place o c.args.l c.args.form (sym (c.is_pointer.ensures n) ∙ c.if-not-is_pointer.false) (sym (c.is_pointer-leads.ensures n) ∙ c.if-leads.true))

pub returns-then-not-is_like-clause-is : goal.returns-then-not-is_like-clause-is
returns-then-not-is_like-clause-is c = λ n o t. rw c.refuse-then-not-is_like.ensures.is (at_unlike n c.args.place o c.args.l c.args.form (sym (c.is_pointer.ensures n) ∙ c.if-not-is_pointer.false) (sym (c.is_pointer-leads.ensures n) ∙ c.if-leads.false) (sym (c.is_like.ensures n t) ∙ c.if-not-is_like.true))

pub returns-clause-is : goal.returns-clause-is
returns-clause-is c = λ n o t. at_like n c.args.place o c.args.l c.args.form (sym (c.is_pointer.ensures n) ∙ c.if-not-is_pointer.false) (sym (c.is_pointer-leads.ensures n) ∙ c.if-leads.false) (sym (c.is_like.ensures n t) ∙ c.if-not-is_like.false)
