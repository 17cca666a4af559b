use Rattle.std.proofs.Common.{sym, ◌∙◌, ap, map}
use Rattle.scc_svread_check.specs.Blocks.{edge_walk, set_line}
use Rattle.scc_svread_check.specs.Lines.{lines}
use Rattle.scc_svread_check.specs.Walking.{pass}
use Rattle.scc_svread_check.proofs.block.edge.Goals as goal

pub returns-in-None : goal.returns-in-None
returns-in-None c =
    c.pass-in-None.ensures ∙ ap (pass 6) (c.sets.ensures ∙ ap (λ l. lines (map (set_line c.args.scope.now) l) 4 c.pass.result) c.as_slice.ensures.elements ∙ ap (lines (map (set_line c.args.scope.now) c.args.list.now) 4) c.pass.ensures)
    ∙ ap (λ r. edge_walk c.args.scope.now r c.args.list.now c.args.w) (sym c.in-None.is)

pub returns-in-Some : goal.returns-in-Some
returns-in-Some c =
    c.pass-in-Some.ensures
    ∙ ap (pass 14) (c.sets-in-Some.ensures ∙ ap (λ l. lines (map (set_line c.args.scope.now) l) 6 c.reset.result) c.as_slice-in-Some.ensures.elements ∙ ap (lines (map (set_line c.args.scope.now) c.args.list.now) 6) c.reset.ensures)
    ∙ ap (λ r. edge_walk c.args.scope.now r c.args.list.now c.args.w) (sym c.in-Some.is)
