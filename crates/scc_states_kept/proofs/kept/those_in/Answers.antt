use Rattle.std.proofs.Common.{◌≡◌, ◌+◌, sym, subst, take}
use Rattle.std.specs.Prelude.{filter}
use Rattle.scc_states_kept.specs.Gathered.{AreAsked}
use Rattle.scc_states_kept.proofs.Gathering.{asked_at, filtered_all, filtered_more}
use Rattle.scc_states_kept.proofs.kept.those_in.Goals as goal

pub loop-cell-preserved : goal.loop-cell-preserved
loop-cell-preserved c = λ only f k a.
    let xs = c.as_slice-cell-items.result.now in
    let i = c.loop-cell.cell-index in
    let same = c.as_slice-cell-items.ensures.keys in
    subst (λ l. c.add_if_in.new.kept ≡ filter f (take (i + 1) l)) same
    (filtered_more f xs i c.loop-cell.kept c.add_if_in.new.kept c.loop-cell-test.true
    (c.in_ok-add_if_in.ensures only f k (asked_at only xs i c.loop-cell-test.true (subst (AreAsked only) (sym same) a)))
    (subst (λ l. c.loop-cell.kept ≡ filter f (take i l)) (sym same) (c.loop-cell.invariant only f k a)))

pub returns : goal.returns
returns c = λ only f k a.
    let xs = c.as_slice-cell-items.result.now in
    let i = c.loop-cell.cell-index in
    let same = c.as_slice-cell-items.ensures.keys in
    subst (λ l. c.loop-cell.kept ≡ filter f l) same
    (filtered_all f xs i c.loop-cell.kept c.loop-cell-test.false (subst (λ l. c.loop-cell.kept ≡ filter f (take i l)) (sym same) (c.loop-cell.invariant only f k a)))
