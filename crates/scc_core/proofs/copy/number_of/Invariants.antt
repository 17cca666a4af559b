use Rattle.std.proofs.Common.{◌≡◌, drop}
use Rattle.scc_core.specs.Counters.{number_of}
use Rattle.scc_core.proofs.copy.number_of.Given as goal

abbrev pub invariant-loop-counter : goal.invariant-loop-counter
invariant-loop-counter l = number_of (drop l.counter-index l.counters) l.cell ≡ number_of l.counters l.cell
