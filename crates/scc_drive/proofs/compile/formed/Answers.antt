use Rattle.std.proofs.Common.{subst}
use Rattle.scc_drive.specs.CommandOutcome.{task_if}
use Rattle.scc_drive.specs.Stages.{Gives, ReadOutcome}
use Rattle.scc_drive.proofs.compile.formed.Goals as goal

pub returns-in-Some : goal.returns-in-Some
returns-in-Some c = subst (λ o. Gives (ReadOutcome (task_if o) c.args.top.now c.args.read.now) c.args.top.now c.in_form.result) c.in-Some.ensures c.in_form.ensures

pub returns-in-None : goal.returns-in-None
returns-in-None c = subst (λ o. Gives (ReadOutcome (task_if o) c.args.top.now c.args.read.now) c.args.top.now c.whole.result) c.in-None.ensures c.whole.ensures
