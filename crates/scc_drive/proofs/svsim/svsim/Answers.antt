use Rattle.std.proofs.Common.{◌∙◌, subst, sym, true, false}
use Rattle.std.proofs.lemmas.Result.{err_from_is_err_and}
use Rattle.scc_drive.specs.CommandOutcome.{is_plain}
use Rattle.scc_drive.specs.Stages.{IsHeld}
use Rattle.scc_drive_spec.specs.Words.{word_at}
use Rattle.scc_drive.proofs.Emitting.{unasked_answered, text_answered}
use Rattle.scc_drive.proofs.svsim.svsim.Goals as goal

pub on_text-requires-clause-held : goal.on_text-requires-clause-held
on_text-requires-clause-held g c =
    subst (λ h. IsHeld h c.in_ok-text.text.name c.in_ok-text.text.bytes) (sym c.in_ok-text.ensures.kept)
    (subst (λ n. IsHeld (g.F.Files.held c.args.files.now) n c.in_ok-text.text.bytes) (sym c.in_ok-text.ensures.asked.0) c.in_ok-text.ensures.asked.2)

pub returns-then-is_plain : goal.returns-then-is_plain
returns-then-is_plain g c =
    text_answered (is_plain c.args.form) true (word_at c.args.words.now 1) c.as_bytes-top.result.now (word_at c.args.words.now 2) c.in_ok-text.text.name (word_at c.args.words.now c.args.stim) c.word-name.result.now
    (g.F.Files.held c.args.files.now) (g.F.Files.held c.ask.new.files) (g.F.Files.misses c.args.files.now) (g.F.Files.misses c.ask.new.files) (g.F.Files.misses c.on_text.new.files)
    (g.F.Files.faults c.args.files.now) (g.F.Files.faults c.ask.new.files) (g.F.Files.faults c.on_text.new.files) c.on_text.result
    (sym c.is_plain.ensures ∙ c.if-is_plain.true) (c.as_bytes-top.ensures.value ∙ c.word-2.ensures) (c.in_ok-text.ensures.asked.0 ∙ c.word.ensures) c.word-name.ensures
    c.in_ok-text.ensures.kept c.in_ok-text.ensures.no_fewer_misses c.in_ok-text.ensures.no_fewer_faults c.on_text.ensures.answers

pub on_form-requires-clause-held : goal.on_form-requires-clause-held
on_form-requires-clause-held g c =
    subst (λ h. IsHeld h c.in_ok-text.text.name c.in_ok-text.text.bytes) (sym c.in_ok-text.ensures.kept)
    (subst (λ n. IsHeld (g.F.Files.held c.args.files.now) n c.in_ok-text.text.bytes) (sym c.in_ok-text.ensures.asked.0) c.in_ok-text.ensures.asked.2)

pub returns : goal.returns
returns g c =
    text_answered (is_plain c.args.form) false (word_at c.args.words.now 1) c.as_bytes-top.result.now (word_at c.args.words.now 2) c.in_ok-text.text.name (word_at c.args.words.now c.args.stim) c.word-name.result.now
    (g.F.Files.held c.args.files.now) (g.F.Files.held c.ask.new.files) (g.F.Files.misses c.args.files.now) (g.F.Files.misses c.ask.new.files) (g.F.Files.misses c.on_form.new.files)
    (g.F.Files.faults c.args.files.now) (g.F.Files.faults c.ask.new.files) (g.F.Files.faults c.on_form.new.files) c.on_form.result
    (sym c.is_plain.ensures ∙ c.if-is_plain.false) (c.as_bytes-top.ensures.value ∙ c.word-2.ensures) (c.in_ok-text.ensures.asked.0 ∙ c.word.ensures) c.word-name.ensures
    c.in_ok-text.ensures.kept c.in_ok-text.ensures.no_fewer_misses c.in_ok-text.ensures.no_fewer_faults c.on_form.ensures

pub returns-in_err-text : goal.returns-in_err-text
returns-in_err-text g c =
    let p = err_from_is_err_and c.from_residual.result c.from_residual.ensures.1 in
    rw (p.1, p.2) (unasked_answered (is_plain c.args.form) (word_at c.args.words.now 1) (word_at c.args.words.now 2) c.word.result.now (word_at c.args.words.now c.args.stim)
    (g.F.Files.held c.args.files.now) (g.F.Files.misses c.args.files.now) (g.F.Files.misses c.ask.new.files) (g.F.Files.faults c.args.files.now) (g.F.Files.faults c.ask.new.files) c.in_err-text.field-0.0 c.word.ensures c.in_err-text.ensures.asked)
