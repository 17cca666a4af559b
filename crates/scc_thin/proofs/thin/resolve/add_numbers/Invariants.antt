use Rattle.std.proofs.Common.{◌≡◌, drop, take, ◌++◌}
use Rattle.scc_thin.specs.Resolved.{are_new_numbers}
use Rattle.scc_thin.proofs.thin.resolve.add_numbers.Given as goal

abbrev pub invariant-loop-n : goal.invariant-loop-n
invariant-loop-n l =
    (are_new_numbers l.set (drop l.n-index l.numbers) ≡ are_new_numbers l.initial.set l.numbers)
    × (l.set ≡ l.initial.set ++ take l.n-index l.numbers)
