-- A process of a core in one resume, what it comes to, and what holds there. This project's own.
use Rattle.std.specs.Prelude.{◌≡◌, ℕ, [], Option, Some}
use Rattle.scc_semantics.specs.Location.{Location}
use Rattle.scc_semantics.specs.Scene.{Names}
use Rattle.scc_semantics.specs.Body as machine
use Rattle.scc_semantics.specs.Design as running
use Rattle.scc_semantics.specs.Value.{Held}
use Rattle.scc_semantics.specs.Machine.{Frames, Go, Mark}
use Rattle.scc_core_spec.specs.Program.{Program, Process}
use Rattle.scc_core_spec.specs.Source.{Home, source_of, at_top, sort_of, body_of}
use Rattle.scc_blocks_spec.specs.Comes.{Comes}
use Rattle.scc_blocks_spec.specs.Tied.{own_names}
use Rattle.scc_states_path_laws.specs.Moved.{World}

-- what a process comes to, also behind ends of lists, which take no step
pub data Reached (d : running.Design) (i : ℕ) (p : running.Process) (signals : Location → ℕ) : Frames → Held → Type 0 where
  comes : {f : Frames} {h : Held} → Comes d i p signals f h → Reached d i p signals f h
  popped : {k : Frames} {h : Held} → (mark : Mark) (names : Names) → Reached d i p signals (Go mark names machine.End k) h → Reached d i p signals k h

abbrev pub HoldsFixed : running.Design → Held → Type 0
HoldsFixed d h = (l : Location) (v : ℕ) → d.fixed l ≡ Some v → h.store.words l ≡ v

-- process i of a core, with these words of the signals
abbrev pub world_of : Home → (Location → Option ℕ) → Program → ℕ → (Location → ℕ) → World
world_of home constant p i signals = record {
  home = home;
  cells = p.cells;
  process = i;
  places = (source_of home p constant).places;
  functions = (source_of home p constant).functions;
  signals = signals;
  names = own_names i;
}

-- process i of a core as the design has it
abbrev pub running_of : Home → Program → ℕ → Process → running.Process
running_of home p i q = record { object = at_top []; sort = sort_of home p q q.is_thread q.edge; body = body_of home p.cells i q.body }
