use Rattle.std.proofs.Common.{◌≡◌, ◌+◌, ◌≤◌, drop}
use Rattle.scc_drive_errors.specs.Spots.{moved}
use Rattle.scc_drive_errors.proofs.spots.behind.Given as goal

abbrev pub invariant-loop-b : goal.invariant-loop-b
invariant-loop-b l = (moved l.line l.column (drop l.b-index l.front) ≡ moved 1 1 l.front) × (l.line ≤ l.b-index + 1) × (l.column ≤ l.b-index + 1)
