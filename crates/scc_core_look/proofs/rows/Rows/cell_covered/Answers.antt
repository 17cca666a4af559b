use Rattle.std.proofs.Common.{◌≡◌, ◌∙◌, ap, map}
use Rattle.scc_core.specs.Tables.{top}
use Rattle.scc_core_view.specs.Programs.{cell_of}
use Rattle.scc_core_look.specs.Rows.{covered}
use Rattle.scc_core_look.specs.Seen.{rooted_input, seen_of}
use Rattle.scc_core_look.proofs.rows.Rows.cell_covered.Goals as goal

pub returns : goal.returns
returns c = λ vectors table.
    let t = c.args.self.now in
    let input = rooted_input (map cell_of c.args.cells.now) (cell_of c.args.cell.now) in
    c.covered.ensures
    ∙ (λ z. covered t (c.top.ensures z) (c.as_slice.ensures.value z) (c.seen_of.ensures z) (c.rooted_input-input.ensures vectors table z))
    ∙ ap (λ ss. covered t top ss (seen_of (cell_of c.args.cell.now)) input) c.in_ok-steps.ensures
