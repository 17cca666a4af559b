use Rattle.std.proofs.Common.{sym, ◌∙◌}
use Rattle.scc_plain_drafts.proofs.Standing.{number_is, not_whole_is}
use Rattle.scc_plain_drafts.proofs.meant.value_at.Goals as goal

pub returns-then-not-is_whole-clause-is : goal.returns-then-not-is_whole-clause-is
returns-then-not-is_whole-clause-is c = λ n h. rw c.refuse.ensures.is (not_whole_is n c.args.place c.args.l (sym (c.is_whole.ensures n) ∙ c.if-not-is_whole.true))

pub returns-in_ok-load-in-Some-clause-is : goal.returns-in_ok-load-in-Some-clause-is
returns-in_ok-load-in-Some-clause-is c = λ n h. let u = c.unwrap_or.ensures in
    number_is n c.args.place c.args.l c.in-Some.kind c.in_ok-load-in-Some.field-0 (sym (c.is_whole.ensures n) ∙ c.if-not-is_whole.false) (sym c.number_in.ensures ∙ c.in-Some.is)
    (rw u at c.in_ok-load-in-Some.ensures.is) (c.in_ok-load-in-Some.ensures.kind ∙ u) c.in_ok-load-in-Some.ensures.place h

pub returns-in-None-clause-is : goal.returns-in-None-clause-is
returns-in-None-clause-is c = λ n h. c.shown_at.ensures.is n (sym (c.is_whole.ensures n) ∙ c.if-not-is_whole.false) (sym c.number_in.ensures ∙ c.in-None.is) h
