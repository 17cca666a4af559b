-- Two methods, each at a clock of its own; and the counting thread under an asynchronous reset, which acts without an edge. This project's own.
use Rattle.std.specs.Prelude.{ℕ, true, false, List, [], ◌∷◌, map, Option, Some, None}
use Rattle.scc_bits_kinds.specs.declared.kind.Kind.TheVariants as kind
use Rattle.scc_bits_kinds.specs.declared.op.Op.TheVariants as op
use Rattle.scc_semantics.specs.Location.{Location, Member}
use Rattle.scc_semantics.specs.Design as running
use Rattle.scc_semantics.specs.Machine.{Frames, Stop}
use Rattle.scc_semantics.specs.Process.{State, Went, Well, Failed, first_frames}
use Rattle.scc_semantics.specs.Run.{Step, Shown, shown}
use Rattle.scc_core_spec.specs.Term.{Convert, Binary}
use Rattle.scc_core_spec.specs.Code.{End, Block}
use Rattle.scc_core_spec.specs.Program.{Program, Process, Input, Output, Variable}
use Rattle.scc_core_spec.specs.Source.{at_top, source_of}
use Rattle.scc_core_spec.specs.Constants.{constants_of}
use Rattle.scc_core_spec.specs.Worked.{here, named, cell, byte, put, load, count_cells, count_body}
use Rattle.scc_core_spec.specs.WorkedRules.{with_cells}
use Rattle.scc_core_spec.specs.WorkedRun.{home, after_edges}

-- `n = n + 1; q.write(n);` at the rising edge of a clock
abbrev pub counts_at : (clock variable output : ℕ) → Process
counts_at c n q = record {
  is_thread = false;
  name = named 9;
  place = here;
  senses = [];
  edge = Some (record { cell = c; rising = true });
  reset = None;
  body = Block here (put n (Convert here (kind.Uint 8) (Binary here (kind.Native 64 false) op.Add (load n) (byte 1))) (put q (load n) End)) End;
}

abbrev pub two_clocks : Program
two_clocks = with_cells (cell 0 kind.Bool Input ∷ cell 1 kind.Bool Input ∷ cell 2 (kind.Uint 8) Output ∷ cell 3 (kind.Uint 8) (Variable 0 false) ∷ cell 4 (kind.Uint 8) Output ∷ cell 5 (kind.Uint 8) (Variable 0 false) ∷ [])
    (counts_at 0 3 2 ∷ counts_at 1 5 4 ∷ [])

abbrev pub design_of : Program → running.Design
design_of p = source_of home p (constants_of home p)

-- storage holds this word everywhere, and the first process, if it is a thread, stands before its first statement
abbrev pub first_of : List running.Process → Frames
first_of [] = Stop
first_of (p ∷ ps) = first_frames 0 p

abbrev pub begins : Program → ℕ → State
begins p w = record { store = record { words = λ l. w; targets = λ l. None }; frames = λ i. first_of (design_of p).processes }

abbrev pub clock_at : ℕ → Location
clock_at n = at_top (Member n ∷ [])

abbrev pub edge_of : List ℕ → Step
edge_of clocks = record { inputs = []; edge = Some (map clock_at clocks) }

-- the outputs behind an edge of the first clock, of the second, and of both
abbrev pub by_turns : List (List ℕ)
by_turns = after_edges (shown (λ i. 72) (design_of two_clocks) (edge_of (0 ∷ []) ∷ edge_of (1 ∷ []) ∷ edge_of (0 ∷ 1 ∷ []) ∷ []) (begins two_clocks 0))

-- the counting thread by the sort of its reset
abbrev pub reset_by : Process → Program
reset_by q = record { top = 8; cells = count_cells; vectors = []; processes = q ∷ [] }

abbrev pub asynchronous : Process
asynchronous = record {
  is_thread = true;
  name = named 9;
  place = here;
  senses = [];
  edge = Some (record { cell = 0; rising = true });
  reset = Some (record { cell = 1; level = true; asynchronous = true });
  body = count_body;
}

-- the outputs before the edges
abbrev pub before_edges : Went (List Shown) → List (List ℕ)
before_edges (Well os) = map (λ o. o.before.outputs) os
before_edges (Failed i) = []

abbrev pub level : ℕ → Option (List Location) → Step
level reset edge = record { inputs = reset ∷ []; edge = edge }

-- the reset without an edge, two edges without it, and again the reset without an edge
abbrev pub resets : List Step
resets = level 1 None ∷ level 0 (Some (clock_at 0 ∷ [])) ∷ level 0 (Some (clock_at 0 ∷ [])) ∷ level 1 None ∷ []

abbrev pub seen_before : Process → List (List ℕ)
seen_before q = before_edges (shown (λ i. 72) (design_of (reset_by q)) resets (begins (reset_by q) 7))
