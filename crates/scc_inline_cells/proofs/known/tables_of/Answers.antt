use Rattle.std.proofs.Common.{◌<◌, ◌≡◌, ◌∙◌, ap, arith, sym, subst, drop, length, []}
use Rattle.scc_inline_cells.specs.Known.{AreTables}
use Rattle.scc_inline_cells.proofs.Knowing.{tabled_next, tabled_last, dropped}
use Rattle.scc_inline_cells.proofs.known.tables_of.Goals as goal

pub loop-class-preserved : goal.loop-class-preserved
loop-class-preserved c =
    let h : c.loop-class.class-index < length c.as_slice-class-items.result.now = omega arith in
    tabled_next c.loop-class.tables c.push.new.self c.in_ok-table_of.field-0 c.as_slice-class-items.result.now c.loop-class.class-index c.class-item.result c.as_slice-class-items.result.now h c.class-item.is c.loop-class.invariant c.in_ok-table_of.ensures c.in_ok-push.ensures.ok

pub returns : goal.returns
returns c =
    let e : drop c.loop-class.class-index c.as_slice-class-items.result.now ≡ [] = dropped c.loop-class.class-index c.as_slice-class-items.result.now (omega arith) in
    subst (λ ks. AreTables c.loop-class.tables ks) c.as_slice-class-items.ensures.elements (tabled_last c.loop-class.tables (drop c.loop-class.class-index c.as_slice-class-items.result.now) c.as_slice-class-items.result.now e c.loop-class.invariant)
