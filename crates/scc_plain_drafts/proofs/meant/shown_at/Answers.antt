use Rattle.std.proofs.Common.{sym, ◌∙◌}
use Rattle.scc_plain_drafts.proofs.Standing.{port_is, none_is}
use Rattle.scc_plain_drafts.proofs.meant.shown_at.Goals as goal

pub returns-in_ok-read-in-Some-clause-is : goal.returns-in_ok-read-in-Some-clause-is
returns-in_ok-read-in-Some-clause-is c = λ n w b h. port_is n c.args.place c.args.l c.in-Some.kind c.in_ok-read-in-Some.field-0 w b (sym (c.port_kind.ensures n) ∙ c.in-Some.is) c.in_ok-read-in-Some.ensures.is c.in_ok-read-in-Some.ensures.kind c.in_ok-read-in-Some.ensures.place h

pub returns-in-None-clause-is : goal.returns-in-None-clause-is
returns-in-None-clause-is c = λ n w b h. rw c.refuse.ensures.is (none_is n c.args.place c.args.l w b (sym (c.port_kind.ensures n) ∙ c.in-None.is))
