use Rattle.std.proofs.Common.{sym}
use Rattle.std.proofs.lemmas.Bool.{eqb-true}
use Rattle.scc_trace.proofs.Turns.{no_line}
use Rattle.scc_trace.proofs.head.next_line.Goals as goal

pub returns-then-is_empty-clause-next : goal.returns-then-is_empty-clause-next
returns-then-is_empty-clause-next c =
    let e = eqb-true _ _ (sym c.if-is_empty.ensures) in
    rw c.refuse.ensures (no_line c.args.file c.args.text.at c.args.text.bytes.now e)
