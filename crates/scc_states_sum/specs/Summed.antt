-- The processes of a core with the splits of its threads, of which all expressions are measured. This project's own.
use Rattle.std.specs.Prelude.{◌≡◌, ℕ, List, [], ◌∷◌, map, Option}
use Rattle.scc_base.specs.declared.refusal.Place.{Place}
use Rattle.scc_bits.specs.Value.{Number}
use Rattle.scc_core.specs.declared.expr.CoreExpr.{CoreExpr}
use Rattle.scc_core.specs.declared.program.CoreProcess.{CoreProcess}
use Rattle.scc_core.specs.declared.program.Sort2.TheVariants as sort
use Rattle.scc_core.specs.declared.stmt.CoreStmt.{CoreStmt}
use Rattle.scc_core_spec.specs.Segments.{all_segments}
use Rattle.scc_core_spec.specs.Sizes.{live_body}
use Rattle.scc_core_spec.specs.Static.{Cells}
use Rattle.scc_core_view.specs.Codes.{code_of}
use Rattle.scc_states_cut.specs.declared.types.SegStmt.{SegStmt}
use Rattle.scc_states_cut.specs.declared.types.SegNode.{SegNode, roll-SegNode}
use Rattle.scc_states_cut.specs.declared.types.SegNode.TheOpen.{SegNode-F}
use Rattle.scc_states_cut.specs.declared.types.SegNode.TheOpen as segment
use Rattle.scc_states_cut.specs.Cut.{segment_of}
use Rattle.scc_states.specs.declared.types.Split.{Split}
use Rattle.scc_states_sum.specs.Bodies.{IsMeasuredStmt, AreMeasuredStmts}
use Rattle.scc_states_sum.specs.Measured.{IsMeasured}

abbrev pub seg_made : Place → SegNode-F SegNode SegStmt → SegStmt
seg_made p x = record { place = p; node = roll-SegNode x }

module _ (cs : Cells) (known : CoreExpr → Option Number) where
  -- a segment ends with a test or a wait
  pub data IsMeasuredSegment : List SegStmt → Type 0 where
    no_seg : IsMeasuredSegment []
    plain_seg : {p : Place} {s : CoreStmt} {ss : List SegStmt} → IsMeasuredStmt cs known s → IsMeasuredSegment ss → IsMeasuredSegment (seg_made p (segment.Plain s) ∷ ss)
    test_seg : {p : Place} {t : CoreExpr} {a b : List SegStmt} → IsMeasured cs known t → IsMeasuredSegment a → IsMeasuredSegment b → IsMeasuredSegment (seg_made p (segment.If t a b) ∷ [])
    wait_seg : {p : Place} (n : ℕ) → IsMeasuredSegment (seg_made p (segment.Wait n) ∷ [])

  pub data AreMeasuredSegments : List (List SegStmt) → Type 0 where
    no_segments : AreMeasuredSegments []
    more_segments : {ss : List SegStmt} {all : List (List SegStmt)} → IsMeasuredSegment ss → AreMeasuredSegments all → AreMeasuredSegments (ss ∷ all)

  -- a split for each thread, in the order of the processes
  pub data HasSplits : List CoreProcess → List Split → Type 0 where
    no_process : HasSplits [] []
    a_method : {p : CoreProcess} {ps : List CoreProcess} {all : List Split} → p.sort ≡ sort.Method → AreMeasuredStmts cs known p.body → HasSplits ps all → HasSplits (p ∷ ps) all
    a_thread : {p : CoreProcess} {ps : List CoreProcess} {s : Split} {all : List Split} → p.sort ≡ sort.Thread
        → segment_of s.waits s.reset ∷ map (segment_of s.waits) s.segments ≡ all_segments (live_body cs (code_of p.body))
        → IsMeasuredSegment s.reset → AreMeasuredSegments s.segments → HasSplits ps all → HasSplits (p ∷ ps) (s ∷ all)
