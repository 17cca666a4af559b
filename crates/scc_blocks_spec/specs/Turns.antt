-- A machine of registers, between the source and the module: words by cells, and the place of each thread. This project's own.
-- It runs segments in place of frames of statements.
use Rattle.std.specs.Prelude.{ℕ, zero, suc, nat_eq, Bool, true, false, ◌&&◌, ◌||◌, List, [], ◌∷◌, length, filter, Option, Some, None, option_map, option_and_then, slice_get, unwrap_or, is_some, not, if◌then◌else◌}
use Rattle.scc_core_spec.specs.Program.{Program, Process, Edge, Reset, is_combinational, is_local, is_root}
use Rattle.scc_core_spec.specs.Static.{Cells}
use Rattle.scc_core_spec.specs.Live.{live}
use Rattle.scc_core_spec.specs.Segments.{Segment, all_segments}
use Rattle.scc_core_spec.specs.Sizes.{live_body}
use Rattle.scc_core_spec.specs.Kept.{written_by, is_kept}
use Rattle.scc_core_spec.specs.Uses.{has_sort, among}
use Rattle.scc_core_spec.specs.Constants.{written, constant_if}
use Rattle.scc_blocks_spec.specs.Acting.{Acting, latest, calm}
use Rattle.scc_blocks_spec.specs.Effect.{Place, Ran, Waits, Ends, Fails, effect, Fell, Left_out, Lost, Effect, run_segment}

pub record Regs : Type 0 where
  -- words of roots, variables and kept locals
  pub word : ℕ → ℕ
  -- None before a thread's first edge
  pub place : ℕ → Option Place

abbrev pub is_clocked : Option Edge → Bool
is_clocked e = is_some e

-- Whether a process finds a cell's word in the registers: that of a root, of a variable that it doesn't write or that it keeps as a clocked method, and what a thread
-- keeps.
abbrev pub lasts : Cells → ℕ → Process → ℕ → Bool
lasts cs i q c = has_sort is_root cs c || (if has_sort is_local cs c then q.is_thread && is_kept cs i q c
    else not (among c (written_by cs q)) || (if q.is_thread then is_kept cs i q c else is_clocked q.edge))

-- what no process writes holds its constant, and has no register
abbrev pub constant_at : Program → ℕ → Option ℕ
constant_at p c = option_and_then (λ x. constant_if (among c (written p)) x.sort) (slice_get p.cells c)

-- the words that a process finds when it begins; others are 0
abbrev pub found : Program → ℕ → Process → Regs → Acting
found p i q g = calm (λ c. unwrap_or (constant_at p c) (if lasts p.cells i q c then g.word c else 0))

-- what a process leaves: the words that it asked for and wrote, and its place
pub record Left : Type 0 where
  pub acting : Acting
  pub place : Option Place

abbrev pub left_by : Option Place → Ran → Option Left
left_by old (Waits a q) = Some (record { acting = a; place = Some q })
left_by old (Ends a) = Some (record { acting = a; place = None })
left_by old Fails = None

abbrev pub method_left : Effect → Option Left
method_left (Fell a) = Some (record { acting = a; place = None })
method_left (Left_out n a) = None
method_left Lost = None

abbrev pub reset_at : (ℕ → ℕ) → Option Reset → Bool
reset_at words None = false
reset_at words (Some r) = nat_eq (words r.cell) (if r.level then 1 else 0)

abbrev pub segment_at : Cells → Process → ℕ → Option Segment
segment_at cs q n = slice_get (all_segments (live_body cs q.body)) n

abbrev pub ran_segment : Cells → Option Segment → Acting → Option Left
ran_segment cs None a = None
ran_segment cs (Some s) a = left_by None (run_segment cs s a)

-- behind a wait that isn't over a resume only counts
abbrev pub behind_wait : Cells → Process → Place → Acting → Option Left
behind_wait cs q place a = by_left place.left
  where
    by_left : ℕ → Option Left
    by_left zero = ran_segment cs (segment_at cs q (suc place.number)) a
    by_left (suc n) = Some (record { acting = a; place = Some (record { number = place.number; left = n }) })

abbrev pub thread_turn : Cells → Process → Bool → Option Place → Acting → Option Left
thread_turn cs q true place a = ran_segment cs (segment_at cs q 0) a
thread_turn cs q false None a = ran_segment cs (segment_at cs q 0) a
thread_turn cs q false (Some place) a = behind_wait cs q place a

-- what a process makes of the registers in one resume
abbrev pub turn : Program → ℕ → Process → Regs → Option Left
turn p i q g = if q.is_thread then thread_turn p.cells q (reset_at g.word q.reset) (g.place i) (found p i q g) else method_left (effect p.cells (live p.cells q.body) (found p i q g))

-- which processes take part
abbrev pub Taking : Type 0
Taking = ℕ → Process → Bool

-- what the one that writes a cell leaves there: each takes from the same registers
abbrev pub taken_from : Program → Taking → Regs → ℕ → List Process → ℕ → ℕ
taken_from p takes g i [] c = g.word c
taken_from p takes g i (q ∷ qs) c = if takes i q && among c (written_by p.cells q)
    then unwrap_or (option_map (λ l. latest l.acting c) (turn p i q g)) (g.word c) else taken_from p takes g (suc i) qs c

abbrev pub place_from : Program → Taking → Regs → ℕ → Option Place
place_from p takes g i = unwrap_or (option_and_then (λ q. if takes i q && q.is_thread then option_map (λ l. l.place) (turn p i q g) else None) (slice_get p.processes i)) (g.place i)

-- these processes act together
abbrev pub acted : Program → Taking → Regs → Regs
acted p takes g = record { word = taken_from p takes g 0 p.processes; place = place_from p takes g }

abbrev pub rounds : Program → ℕ → Regs → Regs
rounds p zero g = g
rounds p (suc n) g = rounds p n (acted p (λ i q. is_combinational q) g)

-- as many rounds of all combinational methods as there are, and one more
abbrev pub settled : Program → Regs → Regs
settled p g = rounds p (suc (length (filter is_combinational p.processes))) g

abbrev pub has_clock : List ℕ → Option Edge → Bool
has_clock at None = false
has_clock at (Some e) = among e.cell at

abbrev pub is_loaded : (ℕ → ℕ) → Option Reset → Bool
is_loaded words None = false
is_loaded words (Some r) = r.asynchronous && reset_at words (Some r)

-- the first part of a step: inputs, asynchronous resets, settled; and the second: the edges of these clocks, settled again
abbrev pub with_inputs : (ℕ → Option ℕ) → Regs → Regs
with_inputs inputs g = record { word = λ c. unwrap_or (inputs c) (g.word c); place = g.place }

abbrev pub begun : Program → (ℕ → Option ℕ) → Regs → Regs
begun p inputs g = let h = with_inputs inputs g in settled p (acted p (λ i q. q.is_thread && is_loaded h.word q.reset) h)

abbrev pub edged : Program → List ℕ → Regs → Regs
edged p at g = settled p (acted p (λ i q. has_clock at q.edge) g)
