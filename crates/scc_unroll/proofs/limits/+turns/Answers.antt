use Rattle.std.proofs.Common.{◌≡◌, refl, sym, ap, subst, ◌∙◌, arith, ◌+◌, ◌<◌, nat_eq, length, drop, [], ◌∷◌, map, Some, None, option_map}
use Rattle.std.specs.Prelude.{IfSome, flat_map}
use Rattle.std.proofs.lemmas.List.{drop_all}
use Rattle.scc_core.proofs.Trees.{get_own}
use Rattle.scc_core_spec.specs.Code.{Code, End, size}
use Rattle.scc_core_spec.specs.Counted as spec
use Rattle.scc_core_spec.specs.Unrolled.{Spot, run_turns}
use Rattle.scc_core_view.specs.Codes.{code_of, counted}
use Rattle.scc_core_view.specs.Terms.{term_of}
use Rattle.scc_unroll_asked.specs.Asked.{AreRead, asked}
use Rattle.scc_unroll.specs.Budgets.{after, budget_of, took, turn_spots}
use Rattle.scc_unroll_laws.specs.Counters.{counters_of}
use Rattle.scc_unroll_laws.specs.Heads.{head_size, stand_behind}
use Rattle.scc_unroll.specs.Shape.{cells_at, counting_of, setting_of, stand_of}
use Rattle.scc_unroll.specs.Spots.{spot_of}
use Rattle.scc_unroll.specs.Turns.{IsTold, turn_of}
use Rattle.scc_unroll_asked.proofs.Asked.{first_read, rest_read, yes_read, no_read, block_read, count_read, loop_read}
use Rattle.scc_unroll.proofs.Budgets.{stays_over, no_turns, simple_turns, turns_more, turns_if, turns_block, turns_loop, turns_counted}
use Rattle.scc_unroll_laws.proofs.Heads.{from_here, head_sized, last_is}
use Rattle.scc_unroll_laws.proofs.Stmts.{as_if, as_block, as_loop}
use Rattle.scc_unroll.proofs.limits.+turns.Goals as goal

-- ---- statements

pub count_turns-loop-s-init : goal.count_turns-loop-s-init
count_turns-loop-s-init t c = (refl, λ b a reads st. (reads, st, refl))

pub count_turns-returns-then-is_over : goal.count_turns-returns-then-is_over
count_turns-returns-then-is_over t c = λ b a reads st.
    let inv = c.loop-s.invariant.1 b a reads st in
    sym (stays_over (budget_of c.loop-s.budget) (run_turns (setting_of c.args.at.now b) (counters_of c.args.counters.now) (stand_of c.loop-s.stand) c.loop-s.number (code_of (drop c.loop-s.s-index c.args.body.now))) (sym c.is_over.ensures ∙ c.if-is_over.true))
    ∙ inv.2

pub count_turns-loop-s-preserved : goal.count_turns-loop-s-preserved
count_turns-loop-s-preserved t c = (
  ap (λ n. n + 1) c.loop-s.invariant.0,
  λ b a reads st.
      let i : c.loop-s.s-index < length c.args.body.now = omega arith in
      let inv = c.loop-s.invariant.1 b a reads st in
      let s = c.s-item.result in
      let rest = code_of (drop (c.loop-s.s-index + 1) c.args.body.now) in
      let last : spec.is_end rest ≡ c.are_all-last.result = last_is c.args.body.now c.loop-s.s-index i ∙ ap (λ n. nat_eq (n + 1) (length c.args.body.now)) (sym c.loop-s.invariant.0) ∙ sym c.are_all-last.ensures in
      let first = first_read c.args.at.now.known c.args.body.now c.loop-s.s-index s i c.s-item.is inv.0 in
      let here = c.in_ok-budget.ensures b rest a first inv.1 last in
      let S = setting_of c.args.at.now b in
      let ns = counters_of c.args.counters.now in
      let w = stand_of c.loop-s.stand in
      let z = budget_of c.in_ok-budget.budget in
      let there = stand_behind w (code_of (s ∷ [])) in (
        rest_read c.args.at.now.known c.args.body.now c.loop-s.s-index s i c.s-item.is inv.0,
        c.behind-stand.ensures.read c.args.at.now.known first,
        ap (λ v. after z (run_turns S ns v c.in_ok-number.number rest)) c.behind-stand.ensures.stands
            ∙ ap (λ n. after z (run_turns S ns there n rest)) (c.in_ok-number.ensures ∙ ap (λ n. c.loop-s.number + n) (c.in_ok-size.ensures ∙ sym (head_sized s)))
            ∙ sym here ∙ sym (ap (λ x. after (budget_of c.loop-s.budget) (run_turns S ns w c.loop-s.number x)) (from_here c.args.body.now c.loop-s.s-index s i c.s-item.is)) ∙ inv.2,
      ),
)

pub count_turns-returns : goal.count_turns-returns
count_turns-returns t c = λ b a reads st.
    let none = drop_all c.loop-s.s-index c.args.body.now (omega arith) in
    let inv = c.loop-s.invariant.1 b a reads st in
    ap (λ ss. after (budget_of c.loop-s.budget) (run_turns (setting_of c.args.at.now b) (counters_of c.args.counters.now) (stand_of c.loop-s.stand) c.loop-s.number (code_of ss))) (sym none) ∙ inv.2

-- ---- a statement

pub turns_at-returns-then-is_simple : goal.turns_at-returns-then-is_simple
turns_at-returns-then-is_simple t c = λ b r a reads st e.
    ap (after (budget_of c.args.budget)) (simple_turns c.args.s.now (sym c.is_simple.ensures ∙ c.if-is_simple.true) (setting_of c.args.at.now b) (counters_of c.args.counters.now) (stand_of c.args.stand) c.args.number r)

pub turns_at-returns-in_ok-both-in-If : goal.turns_at-returns-in_ok-both-in-If
turns_at-returns-in_ok-both-in-If t c = λ b r a reads st e.
    let S = setting_of c.args.at.now b in
    let ns = counters_of c.args.counters.now in
    let w = stand_of c.args.stand in
    let n = c.args.number in
    let m = c.in_ok-inner.inner in
    let s = c.args.s.now in
    let k = c.args.at.now.known in
    let test = c.in-If.test in
    let yes = c.in-If.yes in
    let no = c.in-If.no in
    let o = budget_of c.args.budget in
    let z = budget_of c.in_ok-first-in-If.first in
    let d = budget_of c.in_ok-both-in-If.both in
    let one : c.as_slice.result.now ≡ yes = c.as_slice.ensures.elements in
    let two : c.as_slice-in-If.result.now ≡ yes = c.as_slice-in-If.ensures.elements in
    let three : c.as_slice-in-If-2.result.now ≡ no = c.as_slice-in-If-2.ensures.elements in
    let h : z ≡ after o (run_turns S ns spec.Elsewhere m (code_of yes)) =
    c.in_ok-first-in-If.ensures b a (subst (λ x. AreRead k (asked x)) (sym one) (yes_read k s reads test yes no c.in-If.is)) tt
    ∙ ap (λ x. after o (run_turns S ns spec.Elsewhere m (code_of x))) one in
    let j : d ≡ after z (run_turns S ns spec.Elsewhere (m + size (code_of yes)) (code_of no)) =
    c.in_ok-both-in-If.ensures b a (subst (λ x. AreRead k (asked x)) (sym three) (no_read k s reads test yes no c.in-If.is)) tt
    ∙ ap (λ x. after z (run_turns S ns spec.Elsewhere c.in_ok-second-in-If.second (code_of x))) three
    ∙ ap (λ i. after z (run_turns S ns spec.Elsewhere i (code_of no))) (c.in_ok-second-in-If.ensures ∙ ap (λ i. m + i) (c.in_ok-size-in-If.ensures ∙ ap (λ x. size (code_of x)) two)) in
    let P : (Code → Code) → Type 0 = λ f. after o (run_turns S ns w n (f r)) ≡ after d (run_turns S ns (stand_behind w (f End)) (n + head_size (f End)) r) in
    subst P (sym (as_if s test yes no c.in-If.is)) (turns_if S ns w n m s.place c.in_ok-inner.ensures o d z (term_of test) (code_of yes) (code_of no) r h j)

pub turns_at-returns-in_ok-inside-in-Block : goal.turns_at-returns-in_ok-inside-in-Block
turns_at-returns-in_ok-inside-in-Block t c = λ b r a reads st e.
    let S = setting_of c.args.at.now b in
    let ns = counters_of c.args.counters.now in
    let w = stand_of c.args.stand in
    let n = c.args.number in
    let m = c.in_ok-inner.inner in
    let s = c.args.s.now in
    let k = c.args.at.now.known in
    let body = c.in-Block.body in
    let o = budget_of c.args.budget in
    let d = budget_of c.in_ok-inside-in-Block.inside in
    let one : c.as_slice-in-Block.result.now ≡ body = c.as_slice-in-Block.ensures.elements in
    let h : d ≡ after o (run_turns S ns spec.First m (code_of body)) =
    c.in_ok-inside-in-Block.ensures b a (subst (λ x. AreRead k (asked x)) (sym one) (block_read k s reads body c.in-Block.is)) tt
    ∙ ap (λ x. after o (run_turns S ns spec.First m (code_of x))) one in
    let P : (Code → Code) → Type 0 = λ f. after o (run_turns S ns w n (f r)) ≡ after d (run_turns S ns (stand_behind w (f End)) (n + head_size (f End)) r) in
    subst P (sym (as_block s body c.in-Block.is)) (turns_block S ns w n m s.place c.in_ok-inner.ensures o d (code_of body) r h)

pub turns_at-returns-in_ok-turned-in-Some : goal.turns_at-returns-in_ok-turned-in-Some
turns_at-returns-in_ok-turned-in-Some t c = λ b r a reads st e.
    let S = setting_of c.args.at.now b in
    let cs = cells_at c.args.at.now in
    let ns = counters_of c.args.counters.now in
    let w = stand_of c.args.stand in
    let n = c.args.number in
    let m = c.in_ok-inner.inner in
    let s = c.args.s.now in
    let k = c.args.at.now.known in
    let body = c.in-Loop.body in
    let count = counted c.in-Loop.count in
    let o = budget_of c.args.budget in
    let d = budget_of c.in_ok-turned-in-Some.turned in
    let q : Spot = record { number = n; place = s.place } in
    let one : c.as_slice-in-Loop.result.now ≡ body = c.as_slice-in-Loop.ensures.elements in
    let two : c.as_slice-in-Some.result.now ≡ body = c.as_slice-in-Some.ensures.elements in
    let inside = loop_read k s reads c.in-Loop.count body c.in-Loop.is in
    let g = counting_of cs ns c.in-Some.of in
    let is : Some g ≡ spec.counted_by S ns w count (code_of body) r =
    ap (option_map (counting_of cs ns)) (sym c.in-Some.is) ∙ c.in_ok-of-in-Loop.ensures.counted b r a (count_read k s reads c.in-Loop.count body c.in-Loop.is) e
    ∙ ap (λ x. spec.counted_by S ns w count (code_of x) r) one in
    let told = subst (λ o. IfSome o (λ g. IsTold c.args.at.now c.args.counters.now g)) c.in-Some.is (c.in_ok-of-in-Loop.ensures.told a.counters st (subst (λ x. AreRead k (asked x)) (sym one) inside)) in
    let h : d ≡ after o (flat_map (turn_spots S ns g.cell q (code_of body)) g.turns.list) =
    c.in_ok-turned-in-Some.ensures b a (subst (λ x. AreRead k (asked x)) (sym two) inside) told
    ∙ ap (λ x. after o (flat_map (turn_spots S ns g.cell q (code_of x)) g.turns.list)) two in
    let P : (Code → Code) → Type 0 = λ f. after o (run_turns S ns w n (f r)) ≡ after d (run_turns S ns (stand_behind w (f End)) (n + head_size (f End)) r) in
    subst P (sym (as_loop s c.in-Loop.count body c.in-Loop.is)) (turns_counted S ns w n m s.place c.in_ok-inner.ensures o d count (code_of body) r g g.turns.list (sym is) refl h)

pub turns_at-returns-in_ok-within-in-None : goal.turns_at-returns-in_ok-within-in-None
turns_at-returns-in_ok-within-in-None t c = λ b r a reads st e.
    let S = setting_of c.args.at.now b in
    let cs = cells_at c.args.at.now in
    let ns = counters_of c.args.counters.now in
    let w = stand_of c.args.stand in
    let n = c.args.number in
    let m = c.in_ok-inner.inner in
    let s = c.args.s.now in
    let k = c.args.at.now.known in
    let body = c.in-Loop.body in
    let count = counted c.in-Loop.count in
    let o = budget_of c.args.budget in
    let d = budget_of c.in_ok-within-in-None.within in
    let one : c.as_slice-in-Loop.result.now ≡ body = c.as_slice-in-Loop.ensures.elements in
    let two : c.as_slice-in-None.result.now ≡ body = c.as_slice-in-None.ensures.elements in
    let is : None ≡ spec.counted_by S ns w count (code_of body) r =
    ap (option_map (counting_of cs ns)) (sym c.in-None.is) ∙ c.in_ok-of-in-Loop.ensures.counted b r a (count_read k s reads c.in-Loop.count body c.in-Loop.is) e
    ∙ ap (λ x. spec.counted_by S ns w count (code_of x) r) one in
    let h : d ≡ after o (run_turns S ns spec.Elsewhere m (code_of body)) =
    c.in_ok-within-in-None.ensures b a (subst (λ x. AreRead k (asked x)) (sym two) (loop_read k s reads c.in-Loop.count body c.in-Loop.is)) tt
    ∙ ap (λ x. after o (run_turns S ns spec.Elsewhere m (code_of x))) two in
    let P : (Code → Code) → Type 0 = λ f. after o (run_turns S ns w n (f r)) ≡ after d (run_turns S ns (stand_behind w (f End)) (n + head_size (f End)) r) in
    subst P (sym (as_loop s c.in-Loop.count body c.in-Loop.is)) (turns_loop S ns w n m s.place c.in_ok-inner.ensures o d count (code_of body) r (sym is) h)

-- ---- turns of a loop

pub turns_of_counted-returns : goal.turns_of_counted-returns
turns_of_counted-returns t c = λ b a reads told.
    let S = setting_of c.args.at.now b in
    let ns = counters_of c.args.counters.now in
    c.in_ok-whole.ensures b a reads
    ∙ ap (λ l. after (budget_of c.args.budget) (flat_map (turn_spots S ns c.args.of.now.cell (spot_of c.args.spot) (code_of c.args.body.now)) l)) (ap (map turn_of) c.as_slice.ensures.elements ∙ ap (λ x. x.list) (c.in_ok-turns.ensures told))

pub turns_of_loop-loop-turn-init : goal.turns_of_loop-loop-turn-init
turns_of_loop-loop-turn-init t c = λ b a reads. refl

pub turns_of_loop-loop-turn-preserved : goal.turns_of_loop-loop-turn-preserved
turns_of_loop-loop-turn-preserved t c = λ b a reads.
    let i : c.loop-turn.turn-index < length c.args.list.now = omega arith in
    let F = turn_spots (setting_of c.args.at.now b) (counters_of c.args.counters.now) c.args.cell (spot_of c.args.spot) (code_of c.args.body.now) in
    turns_more F c.args.list.now c.loop-turn.turn-index _ (budget_of c.loop-turn.budget) (budget_of c.in_ok-budget.budget) i (get_own c.args.list.now c.loop-turn.turn-index _) (c.in_ok-budget.ensures b a reads c.has_loops-deep.ensures)
    ∙ c.loop-turn.invariant b a reads

pub turns_of_loop-returns : goal.turns_of_loop-returns
turns_of_loop-returns t c = λ b a reads.
    let none = drop_all c.loop-turn.turn-index c.args.list.now (omega arith) in
    let F = turn_spots (setting_of c.args.at.now b) (counters_of c.args.counters.now) c.args.cell (spot_of c.args.spot) (code_of c.args.body.now) in
    ap (λ l. after (budget_of c.loop-turn.budget) (flat_map F (map turn_of l))) (sym none) ∙ c.loop-turn.invariant b a reads

pub turns_of_turn-returns-then-not-deep : goal.turns_of_turn-returns-then-not-deep
turns_of_turn-returns-then-not-deep t c = λ b a reads d.
    c.with-begun.ensures
    ∙ ap (after (took (budget_of c.args.budget) (spot_of c.args.spot)))
    (sym (no_turns (code_of c.args.body.now) (sym d ∙ c.if-not-deep.true) (setting_of c.args.at.now b) (spec.counter c.args.cell c.args.turn.now.now.bits ∷ counters_of c.args.counters.now) spec.Elsewhere (c.args.spot.number + 1)))
