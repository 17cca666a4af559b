use Rattle.std.proofs.Common.{sym, ◌∙◌, inl, inr}
use Rattle.scc_drive_errors.proofs.Moving.{turn, over}
use Rattle.scc_drive_errors.proofs.spots.behind.Goals as goal
use Rattle.scc_drive_errors.proofs.spots.behind.Goals.{then-b-eq10, else-b-eq10}

pub loop-b-preserved : goal.loop-b-preserved
loop-b-preserved c = turn c.args.front.now c.loop-b.b-index c.loop-b-test.true _ _ _ _ _ c.loop-b.invariant.0 c.loop-b.invariant.1 c.loop-b.invariant.2
    (elim c.if-b-eq10.branch [ then-b-eq10 w ↦ inl (w.if-b-eq10.true, w.line-is, w.column-is) | else-b-eq10 w ↦ inr (w.if-b-eq10.false, w.line-is, w.column-is) ])

pub returns : goal.returns
returns c = sym (over c.args.front.now c.loop-b.b-index c.loop-b.line c.loop-b.column c.loop-b-test.false) ∙ c.loop-b.invariant.0
