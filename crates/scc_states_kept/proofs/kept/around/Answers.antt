use Rattle.scc_core_flow.proofs.Nodes.{each_ok}
use Rattle.scc_states_kept.proofs.Walking.{around_at, keeps_alike}
use Rattle.scc_states_kept.proofs.kept.around.Goals as goal

pub returns-in-Some-get : goal.returns-in-Some-get
returns-in-Some-get c =
    each_ok _ _ c.copied.result c.copied.ensures (λ s h only own outs a.
    keeps_alike only own c.in-Some-get.set.now s _ h (around_at only own c.args.behind.now c.in-Some.at c.args.n c.in-Some-get.set.now outs c.in-Some.ensures c.in-Some-get.ensures.lookup.1 a))
