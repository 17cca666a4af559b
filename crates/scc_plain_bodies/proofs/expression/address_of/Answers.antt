use Rattle.std.proofs.Common.{sym, ◌∙◌}
use Rattle.scc_plain_bodies.proofs.Naming.{not_addressed, is_addressed}
use Rattle.scc_plain_bodies.proofs.expression.address_of.Goals as goal

pub returns-then-not-is_all-clause-is : goal.returns-then-not-is_all-clause-is
returns-then-not-is_all-clause-is c = λ n s. rw c.refuse-then-not-is_all.ensures.is (not_addressed n c.args.place c.args.l c.if-l-ne0.false (sym (c.is_all.ensures n) ∙ c.if-not-is_all.true))

pub returns-clause-is : goal.returns-clause-is
returns-clause-is c = λ n s. (is_addressed n c.args.place c.args.l c.if-l-ne0.false (sym (c.is_all.ensures n) ∙ c.if-not-is_all.false), s)
