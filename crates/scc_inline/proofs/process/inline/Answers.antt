use Rattle.std.proofs.Common.{◌∙◌, ap}
use Rattle.scc_inline.proofs.Beginning.{begun_is}
use Rattle.scc_inline.proofs.process.inline.Goals as goal

pub returns-clause-begun : goal.returns-clause-begun
returns-clause-begun c = begun_is c.args.p.now c.args.d.now c.in_ok-object_cells.field-0 c.into_parts-cells.result.1 c.in_ok-top.top.0 c.in_ok-vectors.vectors c.in_ok-growing.growing c.processes.new.self c.into_cells.result c.in_ok-processes.processes c.into_cells.ensures
    c.in_ok-object_cells.ensures (ap (λ q. q.1) c.into_parts-cells.ensures) c.in_ok-top.ensures c.in_ok-vectors.ensures (c.in_ok-growing.ensures ∙ ap (λ q. q.0) c.into_parts-cells.ensures) c.in_ok-processes.ensures.keeps c.in_ok-processes.ensures.headings
