use Rattle.std.proofs.Common.{◌≡◌, sym, ap, ◌∙◌, arith, ◌-◌, ◌<◌, ℕ, false, true, map, Option, option_map}
use Rattle.scc_core_spec.specs.Counted.{Turns, turns_from}
use Rattle.scc_core_view.specs.Terms.{term_of}
use Rattle.scc_unroll_laws.specs.Counters.{counters_of}
use Rattle.scc_unroll.specs.Shape.{cells_at, turned}
use Rattle.scc_unroll.specs.Turns.{put, turn_of, went}
use Rattle.scc_unroll.proofs.EachTurn.{put_first, put_one, put_none, one_less}
use Rattle.scc_unroll.proofs.turns.turns_by.Goals as goal

pub loop-left-init : goal.loop-left-init
loop-left-init c = λ told.
    let g = c.args.of.now in
    put_first (cells_at c.args.at.now) (counters_of c.args.around.now) g.cell (turned g.turning) (term_of g.start.now) c.new-list.result (option_map (λ w. w.bits) c.in_ok-now.now) c.new-list.ensures.empty
    (c.in_ok-now.ensures ∙ told.start c.args.around.now told.counters)

pub loop-left-preserved : goal.loop-left-preserved
loop-left-preserved c = λ told.
    let g = c.args.of.now in
    let some : 0 < c.loop-left.left = omega arith in
    let from : ℕ → Option ℕ → Turns = turns_from (cells_at c.args.at.now) (counters_of c.args.around.now) g.cell (turned g.turning) in
    let n = c.loop-left.left - 1 in
    let ts = map turn_of c.loop-left.list in
    put_one c.loop-left.list c.push.new.self (record { now = c.in-On.word; next = c.or_zero-behind.result }) (option_map (λ w. w.bits) c.in-On.next) (from n (option_map (λ w. w.bits) c.in-On.next)) c.in_ok-push-in-On.ensures.ok c.or_zero-behind.ensures
    ∙ ap (λ z. put ts (went z (from n))) (sym c.in-On.is)
    ∙ ap (put ts) (sym (c.in_ok-going.ensures told n) ∙ ap (λ k. from k (option_map (λ w. w.bits) c.loop-left.now)) (sym (one_less c.loop-left.left some)))
    ∙ c.loop-left.invariant told

pub returns-in-Unknown : goal.returns-in-Unknown
returns-in-Unknown c = λ told.
    let g = c.args.of.now in
    let some : 0 < c.loop-left.left = omega arith in
    let from : ℕ → Option ℕ → Turns = turns_from (cells_at c.args.at.now) (counters_of c.args.around.now) g.cell (turned g.turning) in
    let n = c.loop-left.left - 1 in
    let ts = map turn_of c.loop-left.list in
    put_none ts false
    ∙ ap (λ z. put ts (went z (from n))) (sym c.in-Unknown.is)
    ∙ ap (put ts) (sym (c.in_ok-going.ensures told n) ∙ ap (λ k. from k (option_map (λ w. w.bits) c.loop-left.now)) (sym (one_less c.loop-left.left some)))
    ∙ c.loop-left.invariant told

pub returns-in-Ends : goal.returns-in-Ends
returns-in-Ends c = λ told.
    let g = c.args.of.now in
    let some : 0 < c.loop-left.left = omega arith in
    let from : ℕ → Option ℕ → Turns = turns_from (cells_at c.args.at.now) (counters_of c.args.around.now) g.cell (turned g.turning) in
    let n = c.loop-left.left - 1 in
    let ts = map turn_of c.loop-left.list in
    put_none ts true
    ∙ ap (λ z. put ts (went z (from n))) (sym c.in-Ends.is)
    ∙ ap (put ts) (sym (c.in_ok-going.ensures told n) ∙ ap (λ k. from k (option_map (λ w. w.bits) c.loop-left.now)) (sym (one_less c.loop-left.left some)))
    ∙ c.loop-left.invariant told

pub returns : goal.returns
returns c = λ told.
    let g = c.args.of.now in
    let none : c.loop-left.left ≡ 0 = omega arith in
    let from : ℕ → Option ℕ → Turns = turns_from (cells_at c.args.at.now) (counters_of c.args.around.now) g.cell (turned g.turning) in
    let ts = map turn_of c.loop-left.list in
    put_none ts false ∙ ap (λ k. put ts (from k (option_map (λ w. w.bits) c.loop-left.now))) (sym none) ∙ c.loop-left.invariant told
