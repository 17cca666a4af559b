use Rattle.std.proofs.Common.{sym, ◌∙◌, subst}
use Rattle.scc_plain_drafts.specs.Picks.{Means}
use Rattle.scc_plain_drafts.specs.Views.{draft_of}
use Rattle.scc_plain_drafts.proofs.Picking.{element_is, bit_is}
use Rattle.scc_plain_drafts.proofs.pick.index_at.Goals as goal

pub returns-then-has_elements-clause-is : goal.returns-then-has_elements-clause-is
returns-then-has_elements-clause-is c = λ n s.
    let e = sym (c.has_elements.ensures n) ∙ c.if-has_elements.true in
    element_is n c.args.place (draft_of c.args.i) c.args.l c.in_ok-element.field-0 e (c.in_ok-element.ensures n s e)

pub returns-clause-is : goal.returns-clause-is
returns-clause-is c = λ n s. subst (λ w. Means n c.bit.result w) (bit_is n c.args.place (draft_of c.args.i) c.args.l (sym (c.has_elements.ensures n) ∙ c.if-has_elements.false)) (c.bit.ensures.is n s)
