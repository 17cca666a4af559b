use Rattle.std.proofs.Common.{◌≡◌, ap, sym, subst, ◌∙◌, None}
use Rattle.scc_thin.specs.Gives.{Fails}
use Rattle.scc_thin.specs.Thin.{thin_of}
use Rattle.scc_drive.proofs.Compiled.{thin_gives, later_gives}
use Rattle.scc_drive.proofs.compile.whole.Goals as goal

pub returns-in-Ok : goal.returns-in-Ok
returns-in-Ok c =
    thin_gives c.args.top.now c.args.read.now c.requires.read c.in-Ok.design c.printed.result c.requires.identifiers
    (ap (thin_of c.args.read.now.names c.args.top.now) (sym c.as_slice.ensures.elements) ∙ c.in-Ok.ensures.value) c.printed.ensures.text c.printed.ensures.memory

pub returns-in-Err-Other : goal.returns-in-Err-Other
returns-in-Err-Other c =
    let none : thin_of c.args.read.now.names c.args.top.now c.as_slice.result.now ≡ None =
    subst (λ h. Fails h (thin_of c.args.read.now.names c.args.top.now c.as_slice.result.now)) c.in-Err-Other.field-0-is c.in-Err-Other.ensures.value in
    later_gives c.args.top.now c.args.read.now c.requires.read c.compiled_later.result
    (ap (thin_of c.args.read.now.names c.args.top.now) (sym c.as_slice.ensures.elements) ∙ none) c.compiled_later.ensures.text c.compiled_later.ensures.stopped
