use Rattle.std.proofs.Common.{◌≡◌, ◌≤◌, min, drop}
use Rattle.scc_svread_check.specs.Numbers.{hex_from}
use Rattle.scc_svread_check.specs.Scope.{greatest}
use Rattle.scc_svread_check.proofs.number.hexadecimal.Given as goal

abbrev pub invariant-loop-b : goal.invariant-loop-b
invariant-loop-b l = (min (hex_from l.n (drop l.b-index l.digits)) greatest ≡ min (hex_from 0 l.digits) greatest) × (l.n ≤ greatest)
