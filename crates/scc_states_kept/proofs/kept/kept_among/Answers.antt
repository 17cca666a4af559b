use Rattle.std.proofs.Common.{sym, subst}
use Rattle.std.specs.Prelude.{◌||◌}
use Rattle.std.specs.List.{list_any}
use Rattle.scc_core_spec.specs.Segments.{Finish, segment_code}
use Rattle.scc_states_cut.specs.Cut.{segment_of}
use Rattle.scc_states_kept.specs.Gathered.{TellsAll, before_all, cut_segments, needed_in, segments_of}
use Rattle.scc_states_kept.specs.Slots.{Keeps}
use Rattle.scc_states_kept.specs.Walks.{TellsCode}
use Rattle.scc_states_kept.proofs.Gathering.{keeps_gathered}
use Rattle.scc_states_kept.proofs.Walking.{keeps_none}
use Rattle.scc_states_kept.proofs.kept.kept_among.Goals as goal

pub returns : goal.returns
returns c = λ cs only waits d a.
    let own = c.args.own.now in
    let cut = c.args.cut.now in
    let first = c.as_slice.ensures.elements in
    let lists = c.as_slice-2.ensures.elements in
    let reset = c.in_ok-segment.ensures cs only waits Finish (λ e. keeps_none only own c.in_ok-all.all c.in_ok-all.ensures)
    (subst (λ l. TellsCode own.known cs only (segment_code (segment_of waits l))) (sym first) d.0) in
    let joined = c.in_ok-join_segments.ensures cs only (before_all cs waits cut.reset) waits
    (subst (λ l. TellsAll own.known cs only (segments_of waits l)) (sym lists) d.1)
    (subst (λ l. Keeps only own c.segment.new.live (before_all cs waits l)) first reset) in
    c.those_in.ensures only (needed_in cs (cut_segments waits cut))
    (keeps_gathered only own cs c.join_segments.new.all waits cut.reset cut.segments
    (subst (λ l. Keeps only own c.join_segments.new.all (λ x. list_any (λ z. before_all cs waits z x) l || before_all cs waits cut.reset x)) lists joined)) a
