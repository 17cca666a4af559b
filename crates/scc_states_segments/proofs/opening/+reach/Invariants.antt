use Rattle.std.proofs.Common.{◌≡◌, drop, Some}
use Rattle.scc_core_view.specs.Codes.{code_of}
use Rattle.scc_states_segments.specs.Reach.{both, reach}
use Rattle.scc_states_segments.proofs.opening.+reach.Given as goal

abbrev pub invariant-reach_of-loop-s : goal.invariant-reach_of-loop-s
invariant-reach_of-loop-s l = both (Some l.most) (reach (code_of (drop l.s-index l.body))) ≡ reach (code_of l.body)
