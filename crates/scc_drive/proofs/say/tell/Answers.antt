use Rattle.std.proofs.Common.{[], sym, subst}
use Rattle.scc_drive.specs.Said.{SaysPart}
use Rattle.scc_drive.specs.Answer.{stopped_text}
use Rattle.scc_drive_errors.specs.Texts.{missing_text, failed_text}
use Rattle.scc_drive.proofs.Saying.{faults_alone}
use Rattle.scc_drive.proofs.say.tell.Goals as goal

pub returns-in-BadWords-clause-parts : goal.returns-in-BadWords-clause-parts
returns-in-BadWords-clause-parts g c =
    subst (λ s. SaysPart (stopped_text s) (g.E.Sink.taken c.args.err.now) (g.E.Sink.taken c.say.new.err)) (sym c.in-BadWords.is)
    (subst (λ t. SaysPart t (g.E.Sink.taken c.args.err.now) (g.E.Sink.taken c.say.new.err)) c.bad_words.ensures.text c.say.ensures.parts)

pub returns-in-Refused-clause-parts : goal.returns-in-Refused-clause-parts
returns-in-Refused-clause-parts g c =
    subst (λ s. SaysPart (stopped_text s) (g.E.Sink.taken c.args.err.now) (g.E.Sink.taken c.say_made.new.err)) (sym c.in-Refused.is) (c.say_made.ensures.parts _ c.refusal.ensures.text)

pub returns-in-Missing-clause-parts : goal.returns-in-Missing-clause-parts
returns-in-Missing-clause-parts g c =
    subst (λ s. SaysPart (stopped_text s) (g.E.Sink.taken c.args.err.now) (g.E.Sink.taken c.say_made-in-Missing.new.err)) (sym c.in-Missing.is)
    (subst (λ n. SaysPart (missing_text n) (g.E.Sink.taken c.args.err.now) (g.E.Sink.taken c.say_made-in-Missing.new.err)) c.bytes.ensures.bytes
    (c.say_made-in-Missing.ensures.parts (missing_text c.bytes.result.now) c.missing.ensures.text))

pub returns-in-Failed-clause-parts : goal.returns-in-Failed-clause-parts
returns-in-Failed-clause-parts g c =
    subst (λ s. SaysPart (stopped_text s) (g.E.Sink.taken c.args.err.now) (g.E.Sink.taken c.say_made-in-Failed.new.err)) (sym c.in-Failed.is)
    (subst (λ n. SaysPart (failed_text n) (g.E.Sink.taken c.args.err.now) (g.E.Sink.taken c.say_made-in-Failed.new.err)) c.bytes-in-Failed.ensures.bytes
    (c.say_made-in-Failed.ensures.parts (failed_text c.bytes-in-Failed.result.now) c.failed.ensures.text))

pub returns-in-NoMemory-clause-parts : goal.returns-in-NoMemory-clause-parts
returns-in-NoMemory-clause-parts g c =
    subst (λ s. SaysPart (stopped_text s) (g.E.Sink.taken c.args.err.now) (g.E.Sink.taken c.no_memory.new.err)) (sym c.in-NoMemory.is) (faults_alone [] _ _ c.no_memory.ensures.parts)
