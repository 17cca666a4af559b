use Rattle.std.proofs.Common.{[], ◌∷◌, Err, refl}
use Rattle.std.proofs.lemmas.Result.{err_from_is_err_and}
use Rattle.scc_drive.specs.Outcome.{tracing}
use Rattle.scc_drive.proofs.Emitting.{FormComes, form_answers, form_stops}
use Rattle.scc_drive.proofs.Wider.{tracing_stimulated, stimulus_lacks, stimulus_gives}
use Rattle.scc_drive.proofs.svsim.on_form.Goals as goal

pub trace_in_form-requires : goal.trace_in_form-requires
trace_in_form-requires g c = record { runs = c.in_ok-module.ensures.runs; short = c.in_ok-stimulus.ensures.asked.1 }

pub returns : goal.returns
returns g c =
    form_answers c.args.top.now c.args.text.now.name c.args.text.now.bytes c.args.name.now c.requires.short (g.F.Files.held c.args.files.now) c.requires.held
    _ _ _ _ c.trace_in_form.result
    (stimulus_gives (FormComes c.args.name.now c.args.text.now)
    c.args.top.now c.args.name.now (tracing c.args.name.now) (c.args.text.now ∷ []) (tracing_stimulated c.args.name.now c.args.top.now (c.args.text.now ∷ [])) refl _ _ _ _ _
    c.in_ok-stimulus.stimulus.name c.trace_in_form.result c.in_ok-stimulus.ensures.asked.0 c.trace_in_form.ensures)

pub returns-in_err-module : goal.returns-in_err-module
returns-in_err-module g c =
    let p = err_from_is_err_and c.from_residual.result c.from_residual.ensures.1 in
    rw (p.1, p.2) (form_answers c.args.top.now c.args.text.now.name c.args.text.now.bytes c.args.name.now c.requires.short (g.F.Files.held c.args.files.now) c.requires.held
    (g.F.Files.misses c.args.files.now) (g.F.Files.misses c.args.files.now) (g.F.Files.faults c.args.files.now) (g.F.Files.faults c.args.files.now) (Err c.in_err-module.field-0.0)
    (form_stops c.args.name.now c.args.top.now c.args.text.now (g.F.Files.held c.args.files.now)
    (g.F.Files.misses c.args.files.now) (g.F.Files.misses c.args.files.now) (g.F.Files.faults c.args.files.now) (g.F.Files.faults c.args.files.now) c.in_err-module.field-0.0 c.in_err-module.ensures.refused))

pub returns-in_err-stimulus : goal.returns-in_err-stimulus
returns-in_err-stimulus g c =
    let p = err_from_is_err_and c.from_residual-in_err-stimulus.result c.from_residual-in_err-stimulus.ensures.1 in
    rw (p.1, p.2) (form_answers c.args.top.now c.args.text.now.name c.args.text.now.bytes c.args.name.now c.requires.short (g.F.Files.held c.args.files.now) c.requires.held
    (g.F.Files.misses c.args.files.now) (g.F.Files.misses c.stimulus_of.new.files) (g.F.Files.faults c.args.files.now) (g.F.Files.faults c.stimulus_of.new.files) (Err c.in_err-stimulus.field-0.0)
    (stimulus_lacks (FormComes c.args.name.now c.args.text.now)
    c.args.top.now c.args.name.now (tracing c.args.name.now) (c.args.text.now ∷ []) (tracing_stimulated c.args.name.now c.args.top.now (c.args.text.now ∷ [])) refl (g.F.Files.held c.args.files.now)
    (g.F.Files.misses c.args.files.now) (g.F.Files.misses c.stimulus_of.new.files) (g.F.Files.faults c.args.files.now) (g.F.Files.faults c.stimulus_of.new.files)
    c.in_err-stimulus.field-0.0 c.in_err-stimulus.ensures.asked))
