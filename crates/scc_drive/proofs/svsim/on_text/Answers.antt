use Rattle.std.proofs.Common.{◌≡◌, subst, false}
use Rattle.std.proofs.lemmas.Result.{err_from_is_err_and}
use Rattle.scc_drive.specs.CommandOutcome.{outcome_of_stimulus}
use Rattle.scc_drive.specs.Stages.{Gives}
use Rattle.scc_drive.proofs.Emitting.{text_stops, stimulus_unasked, stimulus_given}
use Rattle.scc_drive.proofs.svsim.on_text.Goals as goal

pub traced-requires : goal.traced-requires
traced-requires g c = record { read = (c.args.text.now.bytes, c.in_ok-module.ensures.read, c.requires.short); short = c.in_ok-stimulus.ensures.asked.1 }

pub returns-clause-answers : goal.returns-clause-answers
returns-clause-answers g c =
    let s = c.in_ok-stimulus.stimulus in
    let e : s.name ≡ c.args.name.now = c.in_ok-stimulus.ensures.asked.0 in
    stimulus_given c.args.top.now c.args.text.now.name c.args.text.now.bytes c.args.name.now c.requires.short (g.F.Files.held c.args.files.now) c.requires.held
    c.in_ok-module.module c.in_ok-module.ensures.read c.in_ok-module.ensures.named
    (g.F.Files.misses c.args.files.now) (g.F.Files.misses c.stimulus_of.new.files) (g.F.Files.faults c.args.files.now) (g.F.Files.faults c.stimulus_of.new.files) s.bytes c.traced.result
    c.in_ok-stimulus.ensures.asked.1 c.in_ok-stimulus.ensures.asked.2 c.in_ok-stimulus.ensures.again
    (subst (λ n. Gives (λ o. o ≡ outcome_of_stimulus c.in_ok-module.module (record { name = n; bytes = s.bytes }) false) c.args.top.now c.traced.result) e (c.traced.ensures c.args.top.now))

pub returns-in_err-module-clause-answers : goal.returns-in_err-module-clause-answers
returns-in_err-module-clause-answers g c =
    let p = err_from_is_err_and c.from_residual.result c.from_residual.ensures.1 in
    rw (p.1, p.2) (text_stops c.args.top.now c.args.text.now.name c.args.text.now.bytes c.args.name.now c.requires.short (g.F.Files.held c.args.files.now) c.requires.held
    _ _ _ _ c.in_err-module.field-0.0 c.in_err-module.ensures.refused)

pub returns-in_err-stimulus-clause-answers : goal.returns-in_err-stimulus-clause-answers
returns-in_err-stimulus-clause-answers g c =
    let p = err_from_is_err_and c.from_residual-in_err-stimulus.result c.from_residual-in_err-stimulus.ensures.1 in
    rw (p.1, p.2) (stimulus_unasked c.args.top.now c.args.text.now.name c.args.text.now.bytes c.args.name.now c.requires.short (g.F.Files.held c.args.files.now) c.requires.held
    c.in_ok-module.module c.in_ok-module.ensures.read c.in_ok-module.ensures.named
    (g.F.Files.misses c.args.files.now) (g.F.Files.misses c.stimulus_of.new.files) (g.F.Files.faults c.args.files.now) (g.F.Files.faults c.stimulus_of.new.files)
    c.in_err-stimulus.field-0.0 c.in_err-stimulus.ensures.asked c.in_err-stimulus.ensures.never)
