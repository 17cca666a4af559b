use Rattle.std.proofs.Common.{◌≡◌}
use Rattle.scc_states_segments.specs.Frames.{from, scene}
use Rattle.scc_states_segments.proofs.path.next_part.Given as goal

abbrev pub invariant-loop : goal.invariant-loop
invariant-loop l = from l.here (scene l.around) ≡ from l.fn.here (scene l.initial.around)
