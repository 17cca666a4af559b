use Rattle.std.proofs.Common.{◌≡◌, ◌∙◌, ap}
use Rattle.scc_core_look.specs.Seen.{asked}
use Rattle.scc_core_look.proofs.Lefts.{cell_told}
use Rattle.scc_core_look.proofs.terms.one_passes.Goals as goal

pub returns : goal.returns
returns c = λ e ground p number is.
    cell_told c.args.g.now ground c.args.test p number c.args.cell.now c.name_fits.result c.asked.result c.stays_dry.result c.both-told.result c.both.result
    is c.name_fits.ensures (c.asked.ensures ∙ ap (asked c.args.test) c.seen_of.ensures) (λ f. c.stays_dry.ensures f ground) c.both-told.ensures c.both.ensures e
