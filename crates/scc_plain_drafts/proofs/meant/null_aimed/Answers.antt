use Rattle.std.proofs.Common.{sym, ◌∙◌}
use Rattle.scc_plain_drafts.proofs.Picking.{null_given, null_flat}
use Rattle.scc_plain_drafts.proofs.meant.null_aimed.Goals as goal

pub returns-then-is_pointer-clause-is : goal.returns-then-is_pointer-clause-is
returns-then-is_pointer-clause-is c = λ n o. null_given n c.args.place o c.args.form (sym (c.is_pointer.ensures n) ∙ c.if-is_pointer.true)

pub returns-clause-is : goal.returns-clause-is
returns-clause-is c = λ n o. rw c.refuse.ensures.is (null_flat n c.args.place o c.args.form (sym (c.is_pointer.ensures n) ∙ c.if-is_pointer.false))
