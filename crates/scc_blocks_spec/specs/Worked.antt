-- Values worked by hand. This project's own.
-- Threads on registers, of which one waits for several edges and one writes two outputs; a local that nothing writes; a reader before its writer; an array of which
-- one element is read too early.
use Rattle.std.specs.Prelude.{ℕ, nat_eq, true, false, List, [], ◌∷◌, map, Option, Some, None, if◌then◌else◌}
use Rattle.scc_bits_kinds.specs.declared.kind.Kind.TheVariants as kind
use Rattle.scc_semantics.specs.Location as location
use Rattle.scc_semantics.specs.Body as machine
use Rattle.scc_semantics.specs.Machine.{Frames, Go, Outcome, Suspended, run}
use Rattle.scc_semantics.specs.Process.{first_frames}
use Rattle.scc_semantics.specs.Design as running
use Rattle.scc_core_spec.specs.Term as term
use Rattle.scc_core_spec.specs.Term.{Term, Load, Read}
use Rattle.scc_core_spec.specs.Code.{Code, End, If, Block, Wait}
use Rattle.scc_core_spec.specs.Program.{Program, Process, Cell, Output, Input, Signal, Variable}
use Rattle.scc_core_spec.specs.Worked.{here, cell, byte, named, put, load, forever, count_cells, local_cells}
use Rattle.scc_core_spec.specs.WorkedRules.{a_process, with_cells, put_at, at, clock}
use Rattle.scc_core_spec.specs.WorkedRun.{counting, design}
use Rattle.scc_blocks_spec.specs.Turns.{Regs, begun, edged}
use Rattle.scc_blocks_spec.specs.Comes.{fresh}

-- the counting thread from registers that hold anything
abbrev pub anything : Regs
anything = record { word = λ c. 7; place = λ i. None }

abbrev pub reset : ℕ → ℕ → Option ℕ
reset level c = if nat_eq c 1 then Some level else None

abbrev pub first_edge : Regs
first_edge = edged counting (0 ∷ []) (begun counting (reset 1) anything)

abbrev pub second_edge : Regs
second_edge = edged counting (0 ∷ []) (begun counting (reset 0) first_edge)

-- the registers behind the edges at which the reset has these levels
abbrev pub registers_after : Program → List ℕ → Regs → List Regs
registers_after p [] g = []
registers_after p (level ∷ levels) g = let h = edged p (0 ∷ []) (begun p (reset level) g) in h ∷ registers_after p levels h

abbrev pub words_after : ℕ → Program → List ℕ → List ℕ
words_after c p levels = map (λ g. g.word c) (registers_after p levels anything)

abbrev pub clocked_thread : Code → Process
clocked_thread body = record { is_thread = true; name = named 9; place = here; senses = []; edge = clock; reset = Some (record { cell = 1; level = true; asynchronous = false }); body = body }

-- `q.write(0); wait(); while (true) { q.write(1); wait(5); q.write(0); wait(); }`
abbrev pub waiting_body : Code
waiting_body = Block here (put 2 (byte 0) (Wait here 0 1 (forever (put 2 (byte 1) (Wait here 0 5 (put 2 (byte 0) (Wait here 0 1 End)))) End))) End

abbrev pub waiting_thread : Program
waiting_thread = with_cells count_cells (clocked_thread waiting_body ∷ [])

-- the count of the wait with which frames begin
abbrev pub count_first : Option Frames → Option ℕ
count_first (Some (Go mark names (machine.Wait number count rest) outer)) = Some count
count_first f = None

abbrev pub read_of : ℕ → Term
read_of c = Read here (kind.Uint 8) (term.Cell here c)

-- `q.write(0); r.write(0); wait(); while (true) { q.write(3); r.write(q.read()); wait(); }`, r in cell 3
abbrev pub two_outputs : Program
two_outputs = with_cells (cell 0 kind.Bool Input ∷ cell 1 kind.Bool Input ∷ cell 2 (kind.Uint 8) Output ∷ cell 3 (kind.Uint 8) Output ∷ [])
    (clocked_thread (Block here (put 2 (byte 0) (put 3 (byte 0) (Wait here 0 1 (forever (put 2 (byte 3) (put 3 (read_of 2) (Wait here 0 1 End))) End)))) End) ∷ [])

-- `q.write(0); wait(); while (true) { q.write(t); wait(); }` with a local t in cell 3 that no statement writes to which a path comes
abbrev pub unwritten_local : Program
unwritten_local = with_cells local_cells (clocked_thread (Block here (put 1 (byte 0) (Wait here 0 1 (forever (put 1 (load 3) (Wait here 0 1 End)) End))) End) ∷ [])

-- `q.write(0); wait(); while (true) { q.write(n); wait(); }` with a member `n` in cell 3, which construction leaves at 3 and no process writes
abbrev pub unwritten_member : Program
unwritten_member = with_cells (cell 0 kind.Bool Input ∷ cell 1 kind.Bool Input ∷ cell 2 (kind.Uint 8) Output ∷ cell 3 (kind.Uint 8) (Variable 3 false) ∷ [])
    (clocked_thread (Block here (put 2 (byte 0) (Wait here 0 1 (forever (put 2 (load 3) (Wait here 0 1 End)) End))) End) ∷ [])

-- the frames with which its first resume is suspended
abbrev pub frames_of : Outcome → Option Frames
frames_of (Suspended f h) = Some f
frames_of o = None

abbrev pub first_frames_in : List running.Process → Option Frames
first_frames_in [] = None
first_frames_in (p ∷ ps) = frames_of (run design.places design.functions (λ l. 1) 72 (first_frames 0 p) (fresh (λ l. 7) design.targets))

-- `void f() { q.write(s.read()); } void g() { s.write(a.read()); }`, a in cell 0, q in 1, s in 2
abbrev pub reader_first : Program
reader_first = with_cells (cell 0 (kind.Uint 8) Input ∷ cell 1 (kind.Uint 8) Output ∷ cell 2 (kind.Uint 8) Signal ∷ [])
    (a_process false None (2 ∷ []) (Block here (put_at 3 1 (read_of 2) End) End) ∷ a_process false None (0 ∷ []) (Block here (put_at 4 2 (read_of 0) End) End) ∷ [])

-- `m[0] = 0; if (a) m[1] = 0; q = m[a];` with a `bool a` in cell 0, m in cells 1 and 2, and q in cell 3, the read at 9
abbrev pub element : ℕ → Cell
element i = record { name = record { path = location.Member 5 ∷ location.Element i ∷ []; own = None; indices = [] }; kind = kind.Uint 8; sort = Variable 0 false; place = here }

abbrev pub some_cells : List Cell
some_cells = cell 0 kind.Bool Input ∷ element 0 ∷ element 1 ∷ cell 3 (kind.Uint 8) Output ∷ []

abbrev pub flag : Term
flag = Read here kind.Bool (term.Cell here 0)

abbrev pub chosen : Term
chosen = Load (at 9) (kind.Uint 8) (term.Index (term.Prefix here (named 5)) 2 flag)

abbrev pub early_code : Code
early_code = put_at 1 1 (byte 0) (If here flag (put_at 2 2 (byte 0) End) End (put_at 3 3 chosen End))
