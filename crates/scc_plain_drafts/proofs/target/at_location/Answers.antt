use Rattle.std.proofs.Common.{sym, ◌∙◌}
use Rattle.scc_plain_drafts.proofs.Picking as lemma
use Rattle.scc_plain_drafts.proofs.target.at_location.Goals as goal

pub returns-then-not-is_all-clause-is : goal.returns-then-not-is_all-clause-is
returns-then-not-is_all-clause-is c = λ n o t. rw c.refuse-then-not-is_all.ensures.is (lemma.bits n c.args.place o c.args.l c.args.form c.if-l-ne0.false (sym (c.is_all.ensures n) ∙ c.if-not-is_all.true))

pub returns-then-leads-clause-is : goal.returns-then-leads-clause-is
returns-then-leads-clause-is c = λ n o t. rw c.refuse-then-leads.ensures.is (lemma.refers_wrong n c.args.place o c.args.l c.args.form c.if-l-ne0.false (sym (c.is_all.ensures n) ∙ c.if-not-is_all.false) (sym (c.is_like.ensures n t) ∙ c.if-not-is_like.false) c.in-Reference.is (sym (c.is_pointer-leads.ensures n) ∙ c.if-leads.true))

pub returns-else-leads-clause-is : goal.returns-else-leads-clause-is
returns-else-leads-clause-is c = λ n o t. lemma.refers n c.args.place o c.args.l c.args.form c.if-l-ne0.false (sym (c.is_all.ensures n) ∙ c.if-not-is_all.false) (sym (c.is_like.ensures n t) ∙ c.if-not-is_like.false) c.in-Reference.is (sym (c.is_pointer-leads.ensures n) ∙ c.if-leads.false)

pub returns-then-not-leads-clause-is : goal.returns-then-not-leads-clause-is
returns-then-not-leads-clause-is c = λ n o t. rw c.refuse-then-not-leads.ensures.is (lemma.points_wrong n c.args.place o c.args.l c.args.form c.if-l-ne0.false (sym (c.is_all.ensures n) ∙ c.if-not-is_all.false) (sym (c.is_like.ensures n t) ∙ c.if-not-is_like.false) c.in-Pointer.is (sym (c.is_pointer-leads.ensures n) ∙ c.if-not-leads.true))

pub returns-else-not-leads-clause-is : goal.returns-else-not-leads-clause-is
returns-else-not-leads-clause-is c = λ n o t. lemma.points n c.args.place o c.args.l c.args.form c.if-l-ne0.false (sym (c.is_all.ensures n) ∙ c.if-not-is_all.false) (sym (c.is_like.ensures n t) ∙ c.if-not-is_like.false) c.in-Pointer.is (sym (c.is_pointer-leads.ensures n) ∙ c.if-not-leads.false)
