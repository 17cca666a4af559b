-- Bounds on the statements of a resume that the bodies of a core keep. This project's own.
use Rattle.std.specs.Prelude.{◌≡◌, ◌≤◌, ℕ, Some, slice_get}
use Rattle.scc_core_spec.specs.Program.{Program, Process}
use Rattle.scc_states_path_laws.specs.Tracks.{steps_of}

abbrev pub KeepBounds : Program → (ℕ → ℕ) → Type 0
KeepBounds p bounds = (i : ℕ) (q : Process) → slice_get p.processes i ≡ Some q → steps_of q.body ≤ bounds i
