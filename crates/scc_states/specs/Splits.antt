-- What is answered of a thread that is cut. This project's own.
use Rattle.std.specs.Prelude.{◌≡◌, ℕ, List, [], ◌∷◌, map, slice_get, Option, Some, None, Result, Ok, Err}
use Rattle.scc_base.specs.declared.refusal.Refusal.{Refusal}
use Rattle.scc_base.specs.declared.refusal.Stop.{Stop}
use Rattle.scc_core.specs.declared.program.Core.{Core}
use Rattle.scc_core.specs.declared.program.CoreProcess.{CoreProcess}
use Rattle.scc_core.specs.declared.program.Sort2.TheVariants.{Thread}
use Rattle.scc_core.specs.declared.statics.Known.{Known}
use Rattle.scc_core_flow.specs.Live.{DecidesAll}
use Rattle.scc_core_spec.specs.Kept.{kept}
use Rattle.scc_core_spec.specs.Program.{Process, Program}
use Rattle.scc_core_spec.specs.Segments as part
use Rattle.scc_core_spec.specs.Segments.{all_segments}
use Rattle.scc_core_spec.specs.Sizes.{live_body}
use Rattle.scc_core_spec.specs.Split.{first_split}
use Rattle.scc_core_static_laws.specs.Held.{Knows}
use Rattle.scc_core_view.specs.Codes.{code_of}
use Rattle.scc_core_view.specs.Programs.{cells_of}
use Rattle.scc_states_cut.specs.declared.body.CutBody.{CutBody}
use Rattle.scc_states_cut.specs.Cut.{segment_of}
use Rattle.scc_states_cut.specs.Limits.{Stops}
use Rattle.scc_states_kept.specs.Owned.{is_number}
use Rattle.scc_states_kept.specs.Walks.{TellsCode}
use Rattle.scc_states.specs.declared.types.Split.{Split}
use Rattle.scc_states.specs.Resets.{LoadsAll}

abbrev pub Refuses : Option Refusal → Result Unit Stop → Type 0
Refuses o (Ok u) = o ≡ None
Refuses o (Err e) = Stops o e

abbrev pub with_kept : CutBody → List ℕ → Split
with_kept b kept = record { waits = b.waits; reset = b.reset; segments = b.segments; kept = kept }

-- A thread of a core, of whose tests and assignments what is known tells what the definitions do.
pub record IsTold (known : Known) (c : Core) (i : ℕ) (p : CoreProcess) : Type 0 where
  pub stands : slice_get c.processes i ≡ Some p
  pub is_thread : p.sort ≡ Thread
  pub tests : DecidesAll known (cells_of c) p.body
  pub loads : LoadsAll known (cells_of c) p.body

-- The counts of its waits and its segments are the definition's, and nothing is refused of it.
pub record IsParted (p : Program) (q : Process) (s : Split) : Type 0 where
  pub waits : s.waits ≡ part.counts (live_body p.cells q.body)
  pub segments : segment_of s.waits s.reset ∷ map (segment_of s.waits) s.segments ≡ all_segments (live_body p.cells q.body)
  pub fits : first_split p q ≡ None

abbrev pub IsSplitSo : Program → Process → Result Split Stop → Type 0
IsSplitSo p q (Ok s) = IsParted p q s
IsSplitSo p q (Err e) = Stops (first_split p q) e

-- What is known is of the core's cells; of those that may be the thread's own it tells of each statement of the thread what the definitions do: which of them
-- its locations may name, and to which it gives a whole value.
pub record TellsThread (known : Known) (c : Core) (i : ℕ) (p : CoreProcess) : Type 0 where
  pub cells : known.cells.now ≡ c.cells
  pub acts : TellsCode known (cells_of c) (is_number (cells_of c) i) (code_of p.body)

-- each table of the core's names tells that
pub record IsNamed (c : Core) (i : ℕ) (p : CoreProcess) : Type 0 where
  pub told : (known : Known) → Knows known c.cells [] → TellsThread known c i p

-- The split of the definition: the kept cells too are those that live across a wait, ascending.
pub record IsWholeSplit (p : Program) (i : ℕ) (q : Process) (s : Split) : Type 0 where
  pub parted : IsParted p q s
  pub kept : s.kept ≡ kept p.cells i q

abbrev pub IsSplitBy : Program → ℕ → Process → Result Split Stop → Type 0
IsSplitBy p i q (Ok s) = IsWholeSplit p i q s
IsSplitBy p i q (Err e) = Stops (first_split p q) e
