-- What code and segments do to registers is what they do to what the process holds. This project's own.
use Rattle.std.specs.Prelude.{◌≡◌, ℕ}
use Rattle.scc_semantics.specs.Location.{Location}
use Rattle.scc_core_spec.specs.Program.{Program}
use Rattle.scc_core_spec.specs.Source.{Home}
use Rattle.scc_blocks_spec.specs.Effect as effect
use Rattle.scc_blocks_spec.specs.Effect.{Effect, Ran}
use Rattle.scc_states_path_laws.specs.Moved as moved
use Rattle.scc_states_path_laws.specs.Moved.{Done, Halted}
use Rattle.scc_states_laws.specs.Alike.{Alike}

module _ (home : Home) (p : Program) (signals : Location → ℕ) where
  -- of code that is lost nothing is said
  abbrev pub SameDone : Effect → Done → Type 0
  SameDone (effect.Fell a) (moved.Fell h) = Alike home p signals a h
  SameDone (effect.Left_out n a) (moved.Out m h) = (n ≡ m) × Alike home p signals a h
  SameDone effect.Lost d = Unit {0}
  SameDone _ _ = ⊥

  abbrev pub SameRan : Ran → Halted → Type 0
  SameRan (effect.Waits a q) (moved.Waits number left h) = (q.number ≡ number) × (q.left ≡ left) × Alike home p signals a h
  SameRan (effect.Ends a) (moved.Ends h) = Alike home p signals a h
  SameRan effect.Fails o = Unit {0}
  SameRan _ _ = ⊥
