use Rattle.std.proofs.Common.{◌≡◌, take}
use Rattle.scc_core.proofs.program.CellName.copied.Given as goal

abbrev pub invariant-loop-i : goal.invariant-loop-i
invariant-loop-i l = l.indices ≡ take l.i-index l.i-items
