use Rattle.std.proofs.Common.{subst}
use Rattle.std.specs.Prelude.{IfSome}
use Rattle.scc_unroll_asked.specs.Copied.{IsWithin}
use Rattle.scc_unroll.proofs.ended.ended_by.Goals as goal

pub returns-in_ok-ended-in-Some-clause-within : goal.returns-in_ok-ended-in-Some-clause-within
returns-in_ok-ended-in-Some-clause-within c = λ xs all. c.in_ok-ended-in-Some.ensures.within xs (subst (λ o. IfSome o (λ g. IsWithin xs g.turning.step_left.now)) c.in-Some.is (c.in_ok-of.ensures.within xs all))
