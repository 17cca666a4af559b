use Rattle.std.proofs.Common.{◌≡◌, ◌++◌, replicate}
use Rattle.scc_svtext.proofs.digits.blank.Given as goal

abbrev pub invariant-loop : goal.invariant-loop
invariant-loop l = l.out ≡ l.initial.out ++ replicate l.counter 32
