use Rattle.std.proofs.Common.{◌≡◌, ◌∙◌, subst}
use Rattle.std.specs.Prelude.{IfOk}
use Rattle.scc_drive.specs.Said.{SaysPart}
use Rattle.scc_drive.proofs.Saying.{faults_alone}
use Rattle.scc_drive.proofs.say.say_made.Goals as goal

pub returns-in-Ok-clause-parts : goal.returns-in-Ok-clause-parts
returns-in-Ok-clause-parts g c = λ said e.
    subst (λ t. SaysPart t (g.E.Sink.taken c.args.err.now) (g.E.Sink.taken c.say.new.err)) (c.bytes.ensures.bytes ∙ subst (λ r. IfOk r (λ t. t ≡ said)) c.in-Ok.is e) c.say.ensures.parts

pub returns-in-Err-clause-parts : goal.returns-in-Err-clause-parts
returns-in-Err-clause-parts g c = λ said e. faults_alone said _ _ c.no_memory.ensures.parts
