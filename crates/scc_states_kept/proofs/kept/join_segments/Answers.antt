use Rattle.std.proofs.Common.{sym, subst, take}
use Rattle.std.specs.Prelude.{◌||◌}
use Rattle.std.specs.List.{list_any}
use Rattle.scc_core_spec.specs.Segments.{segment_code}
use Rattle.scc_states_cut.specs.Cut.{segment_of}
use Rattle.scc_states_kept.specs.Gathered.{before_all}
use Rattle.scc_states_kept.specs.Slots.{Keeps}
use Rattle.scc_states_kept.specs.Walks.{TellsCode}
use Rattle.scc_states_kept.proofs.Gathering.{told_at}
use Rattle.scc_states_kept.proofs.Standing.{keeps_all, keeps_next}
use Rattle.scc_states_kept.proofs.kept.join_segments.Goals as goal

pub loop-list-preserved : goal.loop-list-preserved
loop-list-preserved c = λ cs only f waits d k.
    let own = c.args.own.now in
    let xs = c.args.lists.now in
    let i = c.loop-list.list-index in
    let y = c.list-item.result in
    let same = c.as_slice.ensures.elements in
    let told = told_at (λ s. TellsCode own.known cs only (segment_code s)) (segment_of waits) xs i y c.loop-list-test.true c.list-item.is d in
    keeps_next only own (λ x l. before_all cs waits l x) xs i y c.join_segment.new.all f c.loop-list-test.true c.list-item.is
    (subst (λ l. Keeps only own c.join_segment.new.all (λ x. before_all cs waits l x || (list_any (λ z. before_all cs waits z x) (take i xs) || f x))) same
    (c.in_ok-join_segment.ensures cs only (λ x. list_any (λ z. before_all cs waits z x) (take i xs) || f x) waits
    (subst (λ l. TellsCode own.known cs only (segment_code (segment_of waits l))) (sym same) told) (c.loop-list.invariant cs only f waits d k)))

pub returns : goal.returns
returns c = λ cs only f waits d k.
    keeps_all only c.args.own.now (λ x l. before_all cs waits l x) c.args.lists.now c.loop-list.list-index c.loop-list.all f c.loop-list-test.false (c.loop-list.invariant cs only f waits d k)
