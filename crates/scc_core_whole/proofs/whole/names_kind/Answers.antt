use Rattle.std.proofs.Common.{◌≡◌, ◌∙◌, ap, sym}
use Rattle.std.specs.Option.{option_copied}
use Rattle.scc_core_whole.proofs.Nodes.{cell_named}
use Rattle.scc_core_whole.proofs.whole.names_kind.Goals as goal

pub returns-in-Some : goal.returns-in-Some
returns-in-Some c = λ e h p. cell_named c.args.cells.now h c.args.number c.in-Some.cell.now c.args.kind (sym c.get.ensures.element ∙ ap option_copied c.in-Some.is) (c.has_kind.ensures e) p
