-- The method `m = pick(1) + pick(0)` runs.
use Rattle.std.specs.Prelude.{ℕ, List, [], ◌∷◌, Option, Some, None}
use Rattle.scc_semantics.specs.Location.{Location}
use Rattle.scc_semantics.specs.Location as location
use Rattle.scc_semantics.specs.Design.{Design, Process}
use Rattle.scc_semantics.specs.Machine.{Outcome, Ended, Unfinished, run}
use Rattle.scc_semantics.specs.Process.{first_frames}
use Rattle.scc_elab_spec.specs.Meant.{design_of}
use Rattle.scc_elab_spec.specs.Worked.{program, made}

abbrev pub meant : Design
meant = design_of program made (λ l. None)

abbrev pub place_of_m : Location
place_of_m = record { root = location.Top; path = location.Member 24 ∷ [] }

abbrev pub ended : Outcome → Option ℕ
ended (Ended h) = Some (h.store.words place_of_m)
ended o = None

abbrev pub first_run : List Process → Outcome
first_run [] = Unfinished
first_run (q ∷ qs) = run meant.places meant.functions (λ l. 0) 30 (first_frames 0 q) (record { store = record { words = λ l. 9; targets = λ l. None }; requests = [] })

abbrev pub word_after : Option ℕ
word_after = ended (first_run meant.processes)
