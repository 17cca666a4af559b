use Rattle.std.proofs.Common.{subst}
use Rattle.scc_plain_drafts.specs.Meaning.{owner_in}
use Rattle.scc_plain_drafts.specs.Picks.{IsTold}
use Rattle.scc_plain_drafts.proofs.meant.Meant.aimed.Goals as goal

pub returns-in-Loc-clause-is : goal.returns-in-Loc-clause-is
returns-in-Loc-clause-is c = λ n t. rw c.in-Loc.is (c.at_location.ensures.is n (owner_in n c.args.own) (subst (λ m. IsTold n c.args.form c.args.own m) c.in-Loc.is t))

pub returns-in-This-clause-is : goal.returns-in-This-clause-is
returns-in-This-clause-is c = λ n t. rw c.in-This.is (c.own_aimed.ensures.is n (subst (λ m. IsTold n c.args.form c.args.own m) c.in-This.is t))

pub returns-in-Address-clause-is : goal.returns-in-Address-clause-is
returns-in-Address-clause-is c = λ n t. rw c.in-Address.is (c.address_aimed.ensures.is n (owner_in n c.args.own) (subst (λ m. IsTold n c.args.form c.args.own m) c.in-Address.is t))

pub returns-in-Null-clause-is : goal.returns-in-Null-clause-is
returns-in-Null-clause-is c = λ n t. rw c.in-Null.is (c.null_aimed.ensures.is n (owner_in n c.args.own))
