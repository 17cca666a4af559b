-- A schedule of one step without an edge: of two methods, the reader and the writer of a signal, both run, then the reader again, then none. This project's own.
use Rattle.std.specs.Prelude.{ℕ, List, [], ◌∷◌, map, None}
use Rattle.scc_semantics.specs.Design.{Design}
use Rattle.scc_semantics.specs.Machine.{Stop}
use Rattle.scc_semantics.specs.Process.{State, Went, Well, Failed}
use Rattle.scc_semantics.specs.Run.{Step, Shown}
use Rattle.scc_blocks_spec.specs.Worked.{reader_first}
use Rattle.scc_blocks_spec.specs.WorkedClocks.{design_of}

abbrev pub chain : Design
chain = design_of reader_first

abbrev pub allowed : ℕ → ℕ
allowed i = 30

abbrev pub at_zero : State
at_zero = record { store = record { words = λ l. 0; targets = λ l. None }; frames = λ i. Stop }

abbrev pub one_step : List Step
one_step = record { inputs = 5 ∷ []; edge = None } ∷ []

abbrev pub outputs_before : List Shown → List (List ℕ)
outputs_before os = map (λ o. o.before.outputs) os

abbrev pub state_of : Went State → State
state_of (Well s) = s
state_of (Failed i) = at_zero
