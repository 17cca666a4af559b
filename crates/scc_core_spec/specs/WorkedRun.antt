-- The counting thread runs: a reset, then two counts.
use Rattle.std.specs.Prelude.{ℕ, true, false, List, [], ◌∷◌, map, Option, Some, None, option_map, unwrap_or}
use Rattle.scc_semantics.specs.Location.{Location, Root, Local, Member}
use Rattle.scc_semantics.specs.Design.{Design}
use Rattle.scc_semantics.specs.Machine.{Stop}
use Rattle.scc_semantics.specs.Process.{State, Went, Well, Failed, first_frames}
use Rattle.scc_semantics.specs.Run.{Step, Shown, shown}
use Rattle.scc_core_spec.specs.Program.{Program, Process}
use Rattle.scc_core_spec.specs.Source.{at_top, source_of}
use Rattle.scc_core_spec.specs.Constants.{constants_of}
use Rattle.scc_core_spec.specs.Worked.{here, named, count_cells, count_body}

abbrev pub home : ℕ → ℕ → Root
home i n = Local i [] n

abbrev pub counting_process : Process
counting_process = record {
  is_thread = true;
  name = named 9;
  place = here;
  senses = [];
  edge = Some (record { cell = 0; rising = true });
  reset = Some (record { cell = 1; level = true; asynchronous = false });
  body = count_body;
}

abbrev pub counting : Program
counting = record { top = 8; cells = count_cells; vectors = []; processes = counting_process ∷ [] }

abbrev pub design : Design
design = source_of home counting (constants_of home counting)

abbrev pub clock : Location
clock = at_top (Member 0 ∷ [])

abbrev pub begins : State
begins = record { store = record { words = λ l. 7; targets = λ l. None }; frames = λ i. unwrap_or (option_map (first_frames i) (first design.processes)) Stop }
  where
    first : {A : Type 0} → List A → Option A
    first [] = None
    first (x ∷ xs) = Some x

abbrev pub step : ℕ → Step
step reset = record { inputs = reset ∷ []; edge = Some (clock ∷ []) }

-- the outputs after each edge
abbrev pub after_edges : Went (List Shown) → List (List ℕ)
after_edges (Well os) = map (λ o. unwrap_or (option_map (λ a. a.outputs) o.after) []) os
after_edges (Failed i) = []

abbrev pub counts : List (List ℕ)
counts = after_edges (shown (λ i. 72) design (step 1 ∷ step 0 ∷ step 0 ∷ []) begins)
