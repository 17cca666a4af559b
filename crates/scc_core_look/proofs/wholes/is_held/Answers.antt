use Rattle.std.proofs.Common.{◌≡◌, ◌&&◌, ◌∙◌, sym, true}
use Rattle.scc_core_look.proofs.Apart.{first, second}
use Rattle.scc_core_look.proofs.Holding.{named}
use Rattle.scc_core_look.proofs.wholes.is_held.Goals as goal

pub returns : goal.returns
returns c = λ e.
    let w : (c.is_name.result && c.holds_fixed.result) ≡ true = sym c.both.ensures ∙ e in
    record { name = named c.args.cell.now (sym c.is_name.ensures ∙ first c.is_name.result c.holds_fixed.result w); word = c.holds_fixed.ensures (second c.is_name.result c.holds_fixed.result w) }
