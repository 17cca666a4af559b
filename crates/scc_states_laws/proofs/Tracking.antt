-- A thread of a core is tracked by its place.
use Rattle.std.proofs.Common.{◌≡◌, ℕ, false, [], Option, Some}
use Rattle.std.specs.Prelude.{slice_get}
use Rattle.scc_semantics.specs.Location.{Location}
use Rattle.scc_semantics.specs.Body as machine
use Rattle.scc_semantics.specs.Design as running
use Rattle.scc_semantics.specs.Value.{Held}
use Rattle.scc_semantics.specs.Machine.{Frames, Go, Suspended, after}
use Rattle.scc_core_spec.specs.Program.{Program}
use Rattle.scc_core_spec.specs.Code.{Code}
use Rattle.scc_core_spec.specs.Live.{live}
use Rattle.scc_core_spec.specs.Flow.{idle_loops}
use Rattle.scc_core_spec.specs.Source.{Home, source_of}
use Rattle.scc_blocks_spec.specs.Comes.{Keeps, goes_on, next_waits}
use Rattle.scc_states_path_laws.specs.Within.{Along, Tests}
use Rattle.scc_states_laws.specs.Processes.{Reached, comes, popped, HoldsFixed, world_of}
use Rattle.scc_states_path_laws.specs.Tracks.{Tracks}
use Rattle.scc_states_path_laws.proofs.Tracked.{tracked}

module _ (d : running.Design) (i : ℕ) (p : running.Process) (signals : Location → ℕ) where
  pub reached_moves : (f g : Frames) (h h' : Held) → next_waits f ≡ false → after d.places d.functions signals 1 f h ≡ Suspended g h' → Reached d i p signals f h → Reached d i p signals g h'
  reached_moves f g h h' free st (comes c) = comes (goes_on c free st)
  reached_moves f g h h' free st (popped mark names r) = reached_moves (Go mark names machine.End f) g h h' free st r

  pub reached_holds : Keeps d → slice_get d.processes i ≡ Some p → (f : Frames) (h : Held) → Reached d i p signals f h → HoldsFixed d h
  reached_holds keeps at f h (comes c) = λ l v e. keeps.fixed i p signals f h l v at c e
  reached_holds keeps at f h (popped mark names r) = reached_holds keeps at (Go mark names machine.End f) h r

module _ (home : Home) (constant : Location → Option ℕ) (p : Program) (i : ℕ) (q : running.Process) (signals : Location → ℕ) where
  unfoldable pub along : Keeps (source_of home p constant) → slice_get (source_of home p constant).processes i ≡ Some q → Along (world_of home constant p i signals)
  along keeps at = record {
    Is = Reached (source_of home p constant) i q signals;
    Holds = HoldsFixed (source_of home p constant);
    holds = reached_holds (source_of home p constant) i q signals keeps at;
    ends = λ mark k h r. popped mark (world_of home constant p i signals).names r;
    moves = reached_moves (source_of home p constant) i q signals;
  }

  pub thread_is_tracked : (c : Code) → Keeps (source_of home p constant) → slice_get (source_of home p constant).processes i ≡ Some q
      → Tests (world_of home constant p i signals) (HoldsFixed (source_of home p constant)) c → idle_loops (live p.cells c) ≡ []
      → Tracks (world_of home constant p i signals) c (Reached (source_of home p constant) i q signals)
  unfolding along
  thread_is_tracked c keeps at tests quiet = tracked (world_of home constant p i signals) (along keeps at) c tests quiet
