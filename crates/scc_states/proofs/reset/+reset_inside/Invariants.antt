use Rattle.std.proofs.Common.{◌≡◌, drop}
use Rattle.scc_core_flow.specs.Live.{DecidesAll}
use Rattle.scc_core_spec.specs.Split.{unloaded}
use Rattle.scc_core_spec.specs.Static.{Cells}
use Rattle.scc_core_view.specs.Codes.{code_of}
use Rattle.scc_states.specs.Resets.{LoadsAll}
use Rattle.scc_states.proofs.reset.+reset_inside.Given as goal

abbrev pub invariant-each-loop-s : goal.invariant-each-loop-s
invariant-each-loop-s l = (cs : Cells) → DecidesAll l.known cs l.body → LoadsAll l.known cs l.body → unloaded cs (code_of (drop l.s-index l.body)) ≡ unloaded cs (code_of l.body)
