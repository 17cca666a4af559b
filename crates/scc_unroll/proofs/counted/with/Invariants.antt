use Rattle.std.proofs.Common.{◌≡◌, ◌++◌, take}
use Rattle.scc_unroll.proofs.counted.with.Given as goal

abbrev pub invariant-loop-counter : goal.invariant-loop-counter
invariant-loop-counter l = l.all.items ≡ l.initial.all.items ++ take l.counter-index l.around
