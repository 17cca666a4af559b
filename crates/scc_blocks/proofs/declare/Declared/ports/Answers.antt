use Rattle.std.proofs.Common.{arith, ap, ◌∙◌, ◌+◌, ◌≡◌, length, get_or, subst}
use Rattle.scc_blocks.proofs.Declaring.{ports_next}
use Rattle.scc_blocks.proofs.declare.Declared.ports.Goals as goal

pub loop-cell-preserved : goal.loop-cell-preserved
loop-cell-preserved c = (
  c.in_ok-at.ensures ∙ ap (λ n. n + 1) c.loop-cell.invariant.0,
  c.port.ensures.own ∙ c.loop-cell.invariant.1,
  ports_next c.args.names.now c.args.c.now.cells c.loop-cell.cell-index c.loop-cell.at c.cell-item.result c.args.self.now c.loop-cell.self c.port.new.self c.loop-cell.invariant.0 (omega (arith, ap length c.as_slice-cell-items.ensures.elements))
      (subst (λ cs. c.cell-item.result ≡ get_or cs c.loop-cell.cell-index c.cell-item.result) c.as_slice-cell-items.ensures.elements c.cell-item.is) c.loop-cell.invariant.2 c.in_ok-port.ensures.adds,
)
