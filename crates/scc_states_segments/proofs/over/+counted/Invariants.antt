use Rattle.std.proofs.Common.{◌≡◌, ◌++◌, List, drop}
use Rattle.scc_core_spec.specs.Split.{Stood, stood}
use Rattle.scc_core_view.specs.Codes.{code_of}
use Rattle.scc_states_segments.specs.Limits.{first_after}
use Rattle.scc_states_segments.proofs.over.+counted.Given as goal

abbrev pub invariant-each-loop-s : goal.invariant-each-loop-s
invariant-each-loop-s l = (ss : List Stood) → first_after l.count (stood l.depth (code_of (drop l.s-index l.body)) ++ ss) ≡ first_after l.initial.count (stood l.depth (code_of l.body) ++ ss)
