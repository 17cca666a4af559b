use Rattle.std.proofs.Common.{◌∙◌, length}
use Rattle.scc_svtree.specs.Term as emitted
use Rattle.scc_lower.proofs.Leaves.{leaves-by}
use Rattle.scc_lower.proofs.stmt.leave.Goals as goal

pub returns : goal.returns
returns c =
    leaves-by (length c.args.cells.cells.now) c.args.cx.now.exit c.args.k c.in_ok-var.var.0 c.in_ok-value.value c.in_ok-var.ensures (c.in_ok-value.ensures ∙ (λ i. emitted.Literal c.args.cx.now.exit (c.from.ensures i)))
