-- Bodies that are refused: variables that two methods share, a loop with a wait in one branch, a path that doesn't write an output, a read before any write.
use Rattle.std.specs.Prelude.{ℕ, Bool, true, false, List, [], ◌∷◌, Option, Some, None}
use Rattle.scc_base.specs.declared.refusal.Place.{Place}
use Rattle.scc_bits_kinds.specs.declared.kind.Kind.TheVariants as kind
use Rattle.scc_core_spec.specs.Term.{Term, Read, Whole}
use Rattle.scc_core_spec.specs.Term as term
use Rattle.scc_core_spec.specs.Code.{Code, End, Put, If, Block, Loop, Exit, Wait}
use Rattle.scc_core_spec.specs.Program.{Cell, Input, Output, Variable, Edge, Process, Program}
use Rattle.scc_core_spec.specs.Worked.{here, named, cell, byte, load}

abbrev pub at : ℕ → Place
at n = record { file = 0; at = n }

abbrev pub put_at : ℕ → ℕ → Term → Code → Code
put_at n c e r = Put (at n) (term.Cell (at n) c) Whole e r

abbrev pub a_process : Bool → Option Edge → List ℕ → Code → Process
a_process thread edge senses body = record { is_thread = thread; name = named 9; place = here; senses = senses; edge = edge; reset = None; body = body }

abbrev pub with_cells : List Cell → List Process → Program
with_cells cells processes = record { top = 0; cells = cells; vectors = []; processes = processes }

abbrev pub clock : Option Edge
clock = Some (record { cell = 0; rising = true })

-- `void f() { m = 1; n = 1; } void g() { n = 2; m = 2; }`, both clocked, with m in cell 1 and n in cell 2
abbrev pub sharing : Program
sharing = with_cells (cell 0 kind.Bool Input ∷ cell 1 (kind.Uint 8) (Variable 0 false) ∷ cell 2 (kind.Uint 8) (Variable 0 false) ∷ [])
    (a_process false clock [] (Block here (put_at 1 1 (byte 1) (put_at 2 2 (byte 1) End)) End) ∷ a_process false clock [] (Block here (put_at 3 2 (byte 2) (put_at 4 1 (byte 2) End)) End) ∷ [])

abbrev pub busy : Term
busy = Read here kind.Bool (term.Cell here 0)

-- `while (busy) { if (a) wait(); }`, the loop at 8
abbrev pub may_not_wait : Program
may_not_wait = with_cells (cell 0 kind.Bool Input ∷ [])
    (a_process true None [] (Block here (Loop (at 8) None (If here busy End (Exit here 0 End) (Block here (If here busy (Wait here 0 1 End) End End) End)) End) End) ∷ [])

-- `if (a) q.write(1);` in a combinational method, the write at 5
abbrev pub latching : Program
latching = with_cells (cell 0 kind.Bool Input ∷ cell 1 (kind.Uint 8) Output ∷ []) (a_process false None (0 ∷ []) (Block here (If here busy (put_at 5 1 (byte 1) End) End End) End) ∷ [])

-- `q.write(n); n = 1;` in such a method
abbrev pub keeping : Program
keeping = with_cells (cell 0 kind.Bool Input ∷ cell 1 (kind.Uint 8) Output ∷ cell 2 (kind.Uint 8) (Variable 0 false) ∷ []) (a_process false None [] (Block here (put_at 5 1 (load 2) (put_at 6 2 (byte 1) End)) End) ∷ [])
