-- What sets of cells hold before statements of segments, from what they hold behind them.
use Rattle.std.proofs.Common.{◌≡◌, ◌<◌, ◌+◌, ℕ, zero, suc, arith, Bool, true, false, List, [], ◌∷◌, ◌++◌, drop, drop-cons, add-one, length, get_or, slice_get, Option, Some, None, refl, sym, ap, subst, ◌∙◌}
use Rattle.std.specs.Prelude.{◌||◌, map, unwrap_or, Result, Ok, Err, OnOk}
use Rattle.scc_base.specs.declared.refusal.Place.{Place}
use Rattle.scc_core.specs.declared.stmt.CoreStmt.{CoreStmt}
use Rattle.scc_core.specs.declared.expr.CoreExpr.{CoreExpr}
use Rattle.scc_core_flow.specs.declared.set.CellSet.{CellSet}
use Rattle.scc_core_flow.specs.Sets.{holds}
use Rattle.scc_core_flow.specs.Live.{Each}
use Rattle.scc_core_flow.proofs.Tests.{each_first, each_second}
use Rattle.scc_states_cut.specs.declared.types.SegStmt.{SegStmt, fold-roll-SegStmt}
use Rattle.scc_states_cut.specs.declared.types.SegNode.{SegNode, roll-SegNode, fold-roll-SegNode}
use Rattle.scc_states_cut.specs.declared.types.SegNode.TheVariants as variant
use Rattle.scc_states_cut.specs.declared.types.SegNode.TheOpen as node
use denote.Hole.Carrier.{roll}
use Rattle.scc_core_spec.specs.Segments.{Segment, Plain, Test, Halt, segment_code}
use Rattle.scc_core_spec.specs.Static.{Cells}
use Rattle.scc_core_spec.specs.Uses.{acts, loads}
use Rattle.scc_core_view.specs.Codes.{code_of}
use Rattle.scc_core_view.specs.Terms.{term_of}
use Rattle.scc_states_cut.specs.Cut.{Node, segment_node, segment_step, stmt_segment}
use Rattle.scc_states_kept.specs.declared.own.Own.{Own}
use Rattle.scc_states_kept.specs.Needs.{reads_cell}
use Rattle.scc_states_kept.specs.Slots.{Keeps, TellsUses}
use Rattle.scc_states_kept.specs.Walks.{Counts, Meets, TellsAct, TellsCode, before_rest, needs, nothing, nowhere}
use Rattle.scc_states_kept.proofs.Walking.{keeps_alike, keeps_none}

abbrev Behind : Type 0
Behind = Segment → Segment

abbrev at : Place → SegNode → SegStmt
at p n = record { place = p; node = n }

module _ (waits : Counts) (p : Place) where
  plain_stands : (s : CoreStmt) (rest : Segment) → stmt_segment waits (at p (variant.Plain s)) rest ≡ Plain (code_of (s ∷ [])) rest
  unfolding roll-SegNode roll
  plain_stands s rest =
      ap (λ n. stmt_segment waits (at p n) rest) (variant.rolls-Plain s)
      ∙ ap (λ f. f rest) (fold-roll-SegStmt Node Behind (segment_node waits) segment_step (record { place = p; node = roll-SegNode (node.Plain s) }))
      ∙ ap (λ f. f p rest) (fold-roll-SegNode Node Behind (segment_node waits) segment_step (node.Plain s))

  test_stands : (t : CoreExpr) (a b : List SegStmt) (rest : Segment) → stmt_segment waits (at p (variant.If t a b)) rest ≡ Test p (term_of t) (before_rest waits a rest) (before_rest waits b rest)
  unfolding roll-SegNode roll
  test_stands t a b rest =
      ap (λ n. stmt_segment waits (at p n) rest) (variant.rolls-If t a b)
      ∙ ap (λ f. f rest) (fold-roll-SegStmt Node Behind (segment_node waits) segment_step (record { place = p; node = roll-SegNode (node.If t a b) }))
      ∙ ap (λ f. f p rest) (fold-roll-SegNode Node Behind (segment_node waits) segment_step (node.If t a b))

  wait_stands : (n : ℕ) (rest : Segment) → stmt_segment waits (at p (variant.Wait n)) rest ≡ Halt p n (unwrap_or (slice_get waits n) 0)
  unfolding roll-SegNode roll
  wait_stands n rest =
      ap (λ n. stmt_segment waits (at p n) rest) (variant.rolls-Wait n)
      ∙ ap (λ f. f rest) (fold-roll-SegStmt Node Behind (segment_node waits) segment_step (record { place = p; node = roll-SegNode (node.Wait n) }))
      ∙ ap (λ f. f p rest) (fold-roll-SegNode Node Behind (segment_node waits) segment_step (node.Wait n))

pub on_ok_under : {A E D : Type 0} (r : Result A E) (K : Type 0) → (D → OnOk r K) → OnOk r (D → K)
on_ok_under (Ok a) K f = f
on_ok_under (Err e) K f = tt

module _ (only : ℕ → Bool) (own : Own) (cs : Cells) where
  pub meets_alike : (old new : CellSet) (s : Segment) → ((n : ℕ) → holds new n ≡ holds old n) → Meets only own cs old s → Meets only own cs new s
  meets_alike old new s h m d = keeps_alike only own old new _ h (m d)

  pub meets_as : (set : CellSet) (s t : Segment) → s ≡ t → Meets only own cs set t → Meets only own cs set s
  meets_as set s t is m = subst (λ z. Meets only own cs set z) (sym is) m

  module _ (waits : Counts) where
    pub meets_wait : (set : CellSet) (s : SegStmt) (n : ℕ) (rest : Segment) → s.node ≡ variant.Wait n → ((m : ℕ) → holds set m ≡ false) → Meets only own cs set (stmt_segment waits s rest)
    meets_wait set s n rest is h = meets_as set _ _ (ap (λ z. stmt_segment waits (at s.place z) rest) is ∙ wait_stands waits s.place n rest) (λ d. keeps_none only own set h)

    pub meets_whole : (set : CellSet) (s : SegStmt) (c : CoreStmt) (rest : Segment) → s.node ≡ variant.Plain c → Meets only own cs set (Plain (code_of (c ∷ [])) rest) → Meets only own cs set (stmt_segment waits s rest)
    meets_whole set s c rest is m = meets_as set _ _ (ap (λ z. stmt_segment waits (at s.place z) rest) is ∙ plain_stands waits s.place c rest) m

    pub test_is : (s : SegStmt) (t : CoreExpr) (a b : List SegStmt) (rest : Segment) → s.node ≡ variant.If t a b
        → stmt_segment waits s rest ≡ Test s.place (term_of t) (before_rest waits a rest) (before_rest waits b rest)
    test_is s t a b rest is = ap (λ z. stmt_segment waits (at s.place z) rest) is ∙ test_stands waits s.place t a b rest

    -- a test is told where its statement is, and so are the branches
    pub told_test : (s : SegStmt) (t : CoreExpr) (a b : List SegStmt) (rest : Segment) → s.node ≡ variant.If t a b → TellsCode own.known cs only (segment_code (stmt_segment waits s rest))
        → TellsUses own.known cs only (loads (term_of t)) × TellsCode own.known cs only (segment_code (before_rest waits a rest)) × TellsCode own.known cs only (segment_code (before_rest waits b rest))
    told_test s t a b rest is d =
        let P = TellsAct own.known cs only in
        let e = subst (λ z. TellsCode own.known cs only (segment_code z)) (test_is s t a b rest is) d in
        let xs = acts (segment_code (before_rest waits a rest)) in
        let ys = acts (segment_code (before_rest waits b rest)) in
        (e.0.reads, each_first P xs (ys ++ []) e.1, each_first P ys [] (each_second P xs (ys ++ []) e.1))

    pub keeps_test : (set : CellSet) (s : SegStmt) (t : CoreExpr) (a b : List SegStmt) (rest : Segment) → s.node ≡ variant.If t a b
        → Keeps only own set (λ x. reads_cell cs x (loads (term_of t)) || (needs cs (segment_code (before_rest waits a rest)) nothing nowhere x || needs cs (segment_code (before_rest waits b rest)) nothing nowhere x))
        → Keeps only own set (needs cs (segment_code (stmt_segment waits s rest)) nothing nowhere)
    keeps_test set s t a b rest is k = subst (λ z. Keeps only own set (needs cs (segment_code z) nothing nowhere)) (sym (test_is s t a b rest is)) k

pub rest_here : (waits : Counts) (ss : List SegStmt) (i j : ℕ) (s : SegStmt) (rest : Segment) → i < length ss → s ≡ get_or ss i s → i + 1 ≡ j
    → before_rest waits (drop i ss) rest ≡ stmt_segment waits s (before_rest waits (drop j ss) rest)
rest_here waits ss i j s rest h is so =
    ap (λ l. before_rest waits l rest) (drop-cons ss i s h)
    ∙ ap (λ x. stmt_segment waits x (before_rest waits (drop (suc i) ss) rest)) (sym is)
    ∙ ap (λ n. stmt_segment waits s (before_rest waits (drop n ss) rest)) (sym (add-one i) ∙ so)
