use Rattle.std.proofs.Common.{◌≡◌, ◌<◌, ◌≤◌, ◌∙◌, ap, sym, true, length, arith}
use Rattle.std.specs.List.{list_all}
use Rattle.scc_core_look.specs.Rows.{cell_covered}
use Rattle.scc_core_look.proofs.Alike.{all-one, taken-whole}
use Rattle.scc_core_look.proofs.rows.Rows.covers_some.Goals as goal

pub loop-cell-preserved : goal.loop-cell-preserved
loop-cell-preserved c = λ vectors table.
    let h : c.loop-cell.cell-index < length c.args.some.now = omega arith in
    all-one (cell_covered c.args.self.now c.args.cells.now) c.args.some.now c.loop-cell.cell-index c.cell-item.result h c.cell-item.is c.loop-cell.all c.in_ok-cell_covered.field-0 c.both-all.result
    (c.loop-cell.invariant vectors table) (λ e. sym (c.in_ok-cell_covered.ensures vectors table) ∙ e) c.both-all.ensures

pub returns : goal.returns
returns c = λ vectors table e.
    let h : length c.args.some.now ≤ c.loop-cell.cell-index = omega arith in
    ap (λ xs. list_all (cell_covered c.args.self.now c.args.cells.now) xs) (sym (taken-whole c.args.some.now c.loop-cell.cell-index h)) ∙ c.loop-cell.invariant vectors table e
