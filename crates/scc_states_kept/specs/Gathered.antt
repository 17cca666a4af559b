-- The kept cells of a thread that is cut, gathered from what is needed before each of its segments. This project's own.
use Rattle.std.specs.Prelude.{◌≡◌, ℕ, Bool, true, List, ◌∷◌, map}
use Rattle.std.specs.List.{list_any}
use Rattle.scc_core.specs.declared.statics.Known.{Known}
use Rattle.scc_core.specs.declared.stmt.CoreStmt.{CoreStmt}
use Rattle.scc_core_flow.specs.Live.{Each}
use Rattle.scc_core_spec.specs.Live.{live}
use Rattle.scc_core_spec.specs.Program.{Process}
use Rattle.scc_core_spec.specs.Segments.{Segment, all_segments, segment_code}
use Rattle.scc_core_spec.specs.Sizes.{live_body}
use Rattle.scc_core_spec.specs.Static.{Cells}
use Rattle.scc_core_view.specs.Codes.{code_of}
use Rattle.scc_states_cut.specs.declared.body.CutBody.{CutBody}
use Rattle.scc_states_cut.specs.declared.types.SegStmt.{SegStmt}
use Rattle.scc_states_cut.specs.Cut.{segment_of}
use Rattle.scc_states_kept.specs.Noted.{cells_here}
use Rattle.scc_states_kept.specs.Walks.{Counts, TellsCode, needs, nothing, nowhere}

abbrev pub Thread : Type 0
Thread = Process

-- what is needed before a segment
abbrev pub before_one : Cells → Segment → ℕ → Bool
before_one cs s = needs cs (segment_code s) nothing nowhere

abbrev pub before_all : Cells → Counts → List SegStmt → ℕ → Bool
before_all cs waits ss = before_one cs (segment_of waits ss)

abbrev pub segments_of : Counts → List (List SegStmt) → List Segment
segments_of waits lists = map (segment_of waits) lists

abbrev pub cut_segments : Counts → CutBody → List Segment
cut_segments waits b = segment_of waits b.reset ∷ segments_of waits b.segments

-- and before some of them
abbrev pub needed_in : Cells → List Segment → ℕ → Bool
needed_in cs ss x = list_any (λ s. before_one cs s x) ss

-- what is known tells of all their statements
abbrev pub TellsAll : Known → Cells → (ℕ → Bool) → List Segment → Type 0
TellsAll known cs only ss = Each (λ s. TellsCode known cs only (segment_code s)) ss

abbrev pub AreAsked : (ℕ → Bool) → List ℕ → Type 0
AreAsked only xs = Each (λ x. only x ≡ true) xs

-- A thread, its live part, and its segments.
pub record IsCutThread (known : Known) (p : Process) (body : List CoreStmt) (ss : List Segment) : Type 0 where
  pub live : code_of body ≡ live (cells_here known) p.body
  pub segments : ss ≡ all_segments (live_body (cells_here known) p.body)
