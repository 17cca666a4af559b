use Rattle.std.proofs.Common.{◌≡◌, ◌∙◌, ap, sym}
use Rattle.scc_core_whole.proofs.Nodes.{cell_loaded, first, second}
use Rattle.scc_core_whole.proofs.whole.is_loaded.Goals as goal

pub returns-in-Cell : goal.returns-in-Cell
returns-in-Cell c = λ e h.
    let w = sym c.both.ensures ∙ e in
    let plain = first c.is_plain.result c.names_kind.result w in
    cell_loaded c.args.cells.now c.args.left.now c.in-Cell.number c.args.kind c.in-Cell.is (c.is_plain.ensures.parts plain) (c.is_plain.ensures.pick plain) (c.names_kind.ensures (second c.is_plain.result c.names_kind.result w) h)
