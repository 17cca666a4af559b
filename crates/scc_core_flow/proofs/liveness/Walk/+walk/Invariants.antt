use Rattle.std.proofs.Common.{drop}
use Rattle.scc_core_spec.specs.Live.{alive}
use Rattle.scc_core_spec.specs.Static.{Cells}
use Rattle.scc_core_view.specs.Codes.{code_of}
use Rattle.scc_core_flow.specs.Live.{DecidesAll}
use Rattle.scc_core_flow.proofs.Alive.{Along}
use Rattle.scc_core_flow.proofs.liveness.Walk.+walk.Given as goal

abbrev pub invariant-list-loop-s : goal.invariant-list-loop-s
invariant-list-loop-s l =
    (cs : Cells) → DecidesAll l.self.known.now cs l.list
    → Along (alive cs (code_of l.list)) (alive cs (code_of (drop l.s-index l.list))) l.initial.out l.out l.initial.left.items l.left.items
