use Rattle.std.proofs.Common.{◌≡◌, ◌<◌, ◌+◌, length, ap, sym, ◌∙◌, true, arith}
use Rattle.scc_core_look.proofs.Apart.{own_on}
use Rattle.scc_core_look.specs.Own.{is_own}
use Rattle.scc_core_look.proofs.cells.are_own.Goals as goal

pub loop-cell-preserved : goal.loop-cell-preserved
loop-cell-preserved c =
    let h : c.loop-cell.cell-index < length c.args.cells.now = omega arith in
    let n = c.loop-cell.invariant.0 in (
      ap (λ n. n + 1) n,
      own_on c.args.places.now c.args.cells.now c.loop-cell.cell-index c.cell-item.result h c.cell-item.is c.loop-cell.own c.is_own.result c.both-own.result c.loop-cell.invariant.1
          (c.is_own.ensures ∙ ap (λ n. is_own c.args.places.now n c.cell-item.result) n) c.both-own.ensures,
    )
