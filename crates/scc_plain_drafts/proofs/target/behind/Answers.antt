use Rattle.std.proofs.Common.{sym, ◌∙◌}
use Rattle.scc_plain_drafts.proofs.Leading.{no_pointer, behind_is}
use Rattle.scc_plain_drafts.proofs.target.behind.Goals as goal

pub returns-then-not-is_pointer-clause-is : goal.returns-then-not-is_pointer-clause-is
returns-then-not-is_pointer-clause-is c = λ n. rw c.refuse.ensures.is (no_pointer n c.args.place c.args.l (sym (c.is_pointer.ensures n) ∙ c.if-not-is_pointer.true))

pub returns-clause-is : goal.returns-clause-is
returns-clause-is c = λ n. rw c.new.ensures (behind_is n c.args.place c.args.l c.in_ok-follow.field-0 (sym (c.is_pointer.ensures n) ∙ c.if-not-is_pointer.false) c.if-l-ne0.false c.in_ok-follow.ensures)
