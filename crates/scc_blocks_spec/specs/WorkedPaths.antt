-- What walks tell, worked by hand: the first answer of a walk, two methods in a cycle, and bodies whose paths are known. This project's own.
use Rattle.std.specs.Prelude.{ℕ, nat_lt, true, false, List, [], ◌∷◌, Option, Some, None}
use Rattle.scc_bits_kinds.specs.declared.kind.Kind.TheVariants as kind
use Rattle.scc_core_spec.specs.Code.{Code, End, If, Block, Loop, Exit, Wait}
use Rattle.scc_core_spec.specs.Program.{Program, Process, Input, Output, Signal}
use Rattle.scc_core_spec.specs.Term as term
use Rattle.scc_core_spec.specs.Term.{Load, Binary, Whole}
use Rattle.scc_bits_kinds.specs.declared.op.Op.TheVariants as op
use Rattle.scc_core_spec.specs.First.{when}
use Rattle.scc_core_spec.specs.Worked.{here, cell, byte, named, put, forever, kept_body, local_body, process, number, counter, int, leaves_at}
use Rattle.scc_core_spec.specs.WorkedRules.{at, put_at, with_cells, clock}
use Rattle.scc_blocks_spec.specs.Worked.{read_of}

-- the numbers above 1
abbrev pub above_one : ℕ → Option ℕ
above_one n = when (nat_lt 1 n) n

-- the threads of which one keeps its local
abbrev pub keeping_thread : Process
keeping_thread = process true [] kept_body

abbrev pub passing_thread : Process
passing_thread = process true [] local_body

abbrev pub method_at : ℕ → List ℕ → Code → Process
method_at n senses body = record { is_thread = false; name = named 9; place = at n; senses = senses; edge = None; reset = None; body = body }

-- `void f() { q.write(s.read()); } void g() { s.write(q.read()); }`, q in cell 0, s in 1
abbrev pub looping : Program
looping = with_cells (cell 0 (kind.Uint 8) Output ∷ cell 1 (kind.Uint 8) Signal ∷ [])
    (method_at 6 (1 ∷ []) (Block here (put_at 3 0 (read_of 1) End) End) ∷ method_at 7 (0 ∷ []) (Block here (put_at 4 1 (read_of 0) End) End) ∷ [])

-- `n = 0;`, and `q.write(n);` with the read at 5
abbrev pub clears : Code
clears = put 3 (byte 0) End

abbrev pub shows_count : Code
shows_count = put 2 (Load (at 5) (kind.Uint 8) (term.Cell (at 5) 3)) End

abbrev pub waits : Code
waits = Wait here 0 1 End

-- `for (int i = 8; i <= 7; i++) ..`: no turn is let in
abbrev pub no_turn_body : Code
no_turn_body = Block here (Block here (put 4 (number 8) (Loop here
    (Some (record { cell = 4; start = number 8; compare = op.Le; bound = number 7; step_op = op.Add; step = number 1 }))
    (If here (Binary here kind.Bool op.Le counter (number 7)) End (Exit here 0 End) (Block here (leaves_at counter) (put 4 (Binary here int op.Add counter (number 1)) End))) End)) End) End

-- `q.write(a.read()); wait(); while (true) wait();` under an asynchronous reset, the write at 7
abbrev pub loading_thread : Process
loading_thread = record {
  is_thread = true;
  name = named 9;
  place = here;
  senses = [];
  edge = clock;
  reset = Some (record { cell = 1; level = true; asynchronous = true });
  body = Block here (put_at 7 2 (read_of 3) (Wait here 0 1 (forever (Wait here 0 1 End) End))) End;
}

abbrev pub loading : Program
loading = with_cells (cell 0 kind.Bool Input ∷ cell 1 kind.Bool Input ∷ cell 2 (kind.Uint 8) Output ∷ cell 3 (kind.Uint 8) Input ∷ []) (loading_thread ∷ [])

-- `wait(); while (true) { q.write(1); wait(); wait(); }`, the waits at 11, 13 and 14, the write at 12
abbrev pub three_waits : Code
three_waits = Block here (Wait (at 11) 0 1 (forever (put_at 12 2 (byte 1) (Wait (at 13) 0 1 (Wait (at 14) 0 1 End))) End)) End
