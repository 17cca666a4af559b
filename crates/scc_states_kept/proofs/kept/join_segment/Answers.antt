use Rattle.scc_core_spec.specs.Segments.{Finish}
use Rattle.scc_states_kept.specs.Gathered.{before_all}
use Rattle.scc_states_kept.proofs.Gathering.{keeps_more_first}
use Rattle.scc_states_kept.proofs.Standing.{on_ok}
use Rattle.scc_states_kept.proofs.Walking.{keeps_none}
use Rattle.scc_states_kept.proofs.kept.join_segment.Goals as goal

pub returns : goal.returns
returns c = λ cs only f waits d k.
    let own = c.args.own.now in
    let here = c.in_ok-segment.ensures cs only waits Finish (λ e. keeps_none only own c.in_ok-live.live c.in_ok-live.ensures) d in
    on_ok c.join.result (λ h. keeps_more_first only own c.args.all.now c.segment.new.live c.join.new.self f (before_all cs waits c.args.list.now) h k here) c.join.ensures
