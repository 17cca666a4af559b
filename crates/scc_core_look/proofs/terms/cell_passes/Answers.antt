use Rattle.std.proofs.Common.{◌≡◌, ◌∙◌, ap, sym}
use Rattle.std.specs.Option.{option_copied}
use Rattle.scc_core_look.proofs.terms.cell_passes.Goals as goal

pub returns-in-Some : goal.returns-in-Some
returns-in-Some c = λ e ground p. c.one_passes.ensures e ground p c.args.number (sym c.get.ensures.element ∙ ap option_copied c.in-Some.is)
