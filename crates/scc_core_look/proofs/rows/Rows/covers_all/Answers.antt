use Rattle.std.proofs.Common.{◌≡◌, ◌∙◌, ap, sym, true}
use Rattle.std.specs.List.{list_all}
use Rattle.scc_core_look.specs.Rows.{cell_covered}
use Rattle.scc_core_look.proofs.Alike.{each-ok}
use Rattle.scc_core_look.proofs.rows.Rows.covers_all.Goals as goal

pub returns : goal.returns
returns c = λ vectors table.
    each-ok _ (λ b. b ≡ true → list_all (cell_covered c.args.self.now c.args.cells.now) c.args.cells.now ≡ true) c.covers_some.result (c.covers_some.ensures vectors table)
    (λ b f e. ap (list_all (cell_covered c.args.self.now c.args.cells.now)) (sym c.as_slice.ensures.elements) ∙ f e)
