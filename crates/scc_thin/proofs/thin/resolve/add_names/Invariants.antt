use Rattle.std.proofs.Common.{◌≡◌, drop, take, ◌++◌}
use Rattle.scc_thin.specs.Resolved.{are_new_names, names_of}
use Rattle.scc_thin.proofs.thin.resolve.add_names.Given as goal

abbrev pub invariant-loop-p : goal.invariant-loop-p
invariant-loop-p l =
    (are_new_names l.index (names_of (drop l.p-index l.ports)) ≡ are_new_names l.initial.index (names_of l.ports))
    × (l.index ≡ l.initial.index ++ names_of (take l.p-index l.ports))
