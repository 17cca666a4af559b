use Rattle.std.proofs.Common.{sym, ◌∙◌, subst}
use Rattle.scc_templates_spec.specs.View.{tree_of}
use Rattle.scc_plain_drafts.specs.Meaning.{meant_in}
use Rattle.scc_plain_drafts.specs.Picks.{Means}
use Rattle.scc_plain_drafts.specs.Views.{draft_of}
use Rattle.scc_plain_bodies.proofs.Naming.{unary_none, unary_is}
use Rattle.scc_plain_bodies.proofs.expression.computed.Goals as goal

pub returns-in-None-clause-is : goal.returns-in-None-clause-is
returns-in-None-clause-is c = λ n o k s h. rw c.refuse.ensures.is (unary_none c.args.place (tree_of c.args.of.now) c.args.op o (meant_in n c.args.m) k (sym (c.operator_on.ensures n) ∙ c.in-None.is))

pub returns-in_ok-x-in-Some-clause-is : goal.returns-in_ok-x-in-Some-clause-is
returns-in_ok-x-in-Some-clause-is c = λ n o k s h. let v = c.in_ok-x-in-Some.ensures.is n s in
    subst (λ w. Means n c.operated.result w)
    (unary_is c.args.place c.args.of.now.place (tree_of c.args.of.now) c.args.op o (meant_in n c.args.m) c.in-Some.op (draft_of c.in_ok-x-in-Some.x) k (sym (c.operator_on.ensures n) ∙ c.in-Some.is) h v.0)
    (c.operated.ensures.is n v.1)
