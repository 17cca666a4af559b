use Rattle.scc_core_flow.proofs.Nodes.{each_ok}
use Rattle.scc_core_flow.proofs.liveness.live_part.Goals as goal

pub returns-clause-live : goal.returns-clause-live
returns-clause-live c = λ cs d. each_ok _ _ c.inner.result (c.inner.ensures cs d) (λ p w. w.code)

pub returns-clause-ends : goal.returns-clause-ends
returns-clause-ends c = λ cs d. each_ok _ _ c.inner.result (c.inner.ensures cs d) (λ p w. w.told)
