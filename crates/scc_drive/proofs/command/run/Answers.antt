use Rattle.std.proofs.Common.{refl, inr}
use Rattle.scc_drive.proofs.Saying.{output_alone}
use Rattle.scc_drive.proofs.Telling.{told_refused, told_absent, told_ends, output_ends, is_done, is_theorem, cut_written, cut_said}
use Rattle.scc_drive.proofs.WholeRun.{stopped_whole, written_whole, cut_whole, cut_of}
use Rattle.scc_drive.proofs.command.run.Goals as goal

pub returns-clause-refused : goal.returns-clause-refused
returns-clause-refused g c = λ one. told_refused c.args.words.now _ _ _ _ _ _ _ _ _ _ c.in-Err.stopped c.in-Err.ensures.answers c.tell.ensures.told one

pub returns-clause-absent : goal.returns-clause-absent
returns-clause-absent g c = λ three. told_absent c.args.words.now _ _ _ _ _ _ _ _ _ _ c.in-Err.stopped c.in-Err.ensures.answers c.tell.ensures.told three

pub returns-clause-ends : goal.returns-clause-ends
returns-clause-ends g c = λ shelf h. told_ends c.args.words.now _ _ _ _ _ _ _ _ _ _ c.in-Err.stopped c.in-Err.ensures.answers c.tell.ensures.told shelf h

pub returns-clause-part : goal.returns-clause-part
returns-clause-part g c = λ _. cut_said c.args.words.now _ _ _ _ _ c.in-Err.stopped _ _ _ _ c.in-Err.ensures.answers refl c.tell.ensures.parts

pub returns-in-Ok-put_all-clause-theorem : goal.returns-in-Ok-put_all-clause-theorem
returns-in-Ok-put_all-clause-theorem g c = λ _. is_theorem c.args.words.now (g.F.Files.held c.args.files.now) (g.F.Files.misses c.args.files.now) (g.F.Files.misses c.answer.new.files) (g.F.Files.faults c.args.files.now) (g.F.Files.faults c.answer.new.files) c.in-Ok.text _ _ _ c.in-Ok.ensures.answers c.bytes.ensures.bytes c.in-Ok-put_all.ensures.whole

pub returns-in-Ok-put_all-clause-done : goal.returns-in-Ok-put_all-clause-done
returns-in-Ok-put_all-clause-done g c = λ _. is_done c.args.words.now (g.F.Files.held c.args.files.now) (g.F.Files.misses c.args.files.now) (g.F.Files.misses c.answer.new.files) (g.F.Files.faults c.args.files.now) (g.F.Files.faults c.answer.new.files) c.in-Ok.text _ _ _ c.in-Ok.ensures.answers c.bytes.ensures.bytes c.in-Ok-put_all.ensures.whole

pub returns-in-Ok-put_all-clause-ends : goal.returns-in-Ok-put_all-clause-ends
returns-in-Ok-put_all-clause-ends g c = λ shelf h. output_ends c.args.words.now _ (g.F.Files.misses c.args.files.now) (g.F.Files.misses c.answer.new.files) (g.F.Files.faults c.args.files.now) (g.F.Files.faults c.answer.new.files)
    (g.E.Sink.taken c.args.err.now) (g.E.Sink.taken c.args.err.now) 0 0 _ c.in-Ok.text c.in-Ok.ensures.answers c.new.ensures.number shelf h

pub returns-in-Err-Failed-clause-part : goal.returns-in-Err-Failed-clause-part
returns-in-Err-Failed-clause-part g c =
    λ _. cut_written c.args.words.now _ _ _ _ _ c.in-Ok.text _ _ _ _ _ c.in-Ok.ensures.answers c.bytes.ensures.bytes c.in-Err-Failed.ensures.part (output_alone _ _ c.output_failed.ensures.parts)

pub returns-in-Ok-clause-part : goal.returns-in-Ok-clause-part
returns-in-Ok-clause-part g c =
    λ _. cut_written c.args.words.now _ _ _ _ _ c.in-Ok.text _ _ _ _ _ c.in-Ok.ensures.answers c.bytes.ensures.bytes c.in-Err-NoMemory.ensures.part c.no_memory.ensures.parts

pub returns-clause-whole : goal.returns-clause-whole
returns-clause-whole g c = λ shelf h early. stopped_whole shelf c.args.words.now _ h _ _ _ _ early _ _ _ _ _ _ _ c.in-Err.stopped c.in-Err.ensures.answers c.tell.ensures.told refl

pub returns-in-Ok-put_all-clause-whole : goal.returns-in-Ok-put_all-clause-whole
returns-in-Ok-put_all-clause-whole g c = λ shelf h early. written_whole shelf c.args.words.now _ h _ _ _ _ early _ _ _ _ _ c.in-Ok.text c.in-Ok.ensures.answers _ c.bytes.ensures.bytes c.in-Ok-put_all.ensures.whole c.new.ensures.number

pub returns-in-Err-Failed-clause-whole : goal.returns-in-Err-Failed-clause-whole
returns-in-Err-Failed-clause-whole g c =
    λ shelf h early. cut_whole shelf c.args.words.now _ h _ _ _ _ early _ _ _ _ _ c.in-Ok.text c.in-Ok.ensures.answers _ c.bytes.ensures.bytes c.in-Err-Failed.ensures.part (inr c.output_failed.ensures.status)

pub returns-in-Ok-clause-whole : goal.returns-in-Ok-clause-whole
returns-in-Ok-clause-whole g c =
    λ shelf h early. cut_whole shelf c.args.words.now _ h _ _ _ _ early _ _ _ _ _ c.in-Ok.text c.in-Ok.ensures.answers _ c.bytes.ensures.bytes c.in-Err-NoMemory.ensures.part (cut_of _ _ _ c.no_memory.ensures.status)
