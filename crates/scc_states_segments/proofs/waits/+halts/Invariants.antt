use Rattle.std.proofs.Common.{◌≡◌, ◌++◌, map, drop}
use Rattle.scc_core_spec.specs.Rules.{waits}
use Rattle.scc_core_spec.specs.Segments.{counts}
use Rattle.scc_core_view.specs.Codes.{code_of}
use Rattle.scc_states_segments.proofs.waits.+halts.Given as goal

abbrev pub invariant-halts-loop-s : goal.invariant-halts-loop-s
invariant-halts-loop-s l =
    (map (λ h. h.count) l.out ++ counts (code_of (drop l.s-index l.body)) ≡ map (λ h. h.count) l.initial.out ++ counts (code_of l.body))
    × (map (λ h. h.place) l.out ++ waits (code_of (drop l.s-index l.body)) ≡ map (λ h. h.place) l.initial.out ++ waits (code_of l.body))
