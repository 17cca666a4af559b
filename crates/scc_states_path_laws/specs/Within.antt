-- What the machine comes to within a number of steps, along states that hold what is known of a process. This project's own.
use Rattle.std.specs.Prelude.{◌≡◌, ℕ, ◌≤◌, Bool, false, Some}
use Rattle.scc_semantics.specs.Body as machine
use Rattle.scc_semantics.specs.Value.{Held}
use Rattle.scc_semantics.specs.Machine.{Frames, Go, Mark, Outcome, Suspended, run, after}
use Rattle.scc_core_spec.specs.Term.{Term}
use Rattle.scc_core_spec.specs.Code.{Code, End, Put, Aim, If, Block, Loop, Exit, Wait}
use Rattle.scc_core_spec.specs.Static.{goes, is_true}
use Rattle.scc_blocks_spec.specs.Comes.{next_waits}
use Rattle.scc_states_path_laws.specs.Moved.{World, word_of}

-- with any bound from b on the run comes to this outcome
pub record Within (w : World) (b : ℕ) (f : Frames) (h : Held) (o : Outcome) : Type 0 where
  pub by : (n : ℕ) → b ≤ n → run w.places w.functions w.signals n f h ≡ o

-- States that a process comes to: an end of a list takes no step, each statement but a wait leads on; and what holds of what it then holds.
pub record Along (w : World) : Type 1 where
  pub Is : Frames → Held → Type 0
  pub Holds : Held → Type 0
  pub holds : (f : Frames) (h : Held) → Is f h → Holds h
  pub ends : (mark : Mark) (k : Frames) (h : Held) → Is (Go mark w.names machine.End k) h → Is k h
  pub moves : (f g : Frames) (h h' : Held) → next_waits f ≡ false → after w.places w.functions w.signals 1 f h ≡ Suspended g h' → Is f h → Is g h'

-- a condition that is static is what it is
abbrev pub Chooses : World → (Held → Type 0) → Term → Type 0
Chooses w Holds t = (h : Held) → Holds h → (y : Bool) → goes w.cells t ≡ Some y → (v : ℕ) × (word_of w t h ≡ Some v) × (is_true v ≡ y)

abbrev pub Tests : World → (Held → Type 0) → Code → Type 0
Tests w Holds End = Unit {0}
Tests w Holds (Put p l k e r) = Tests w Holds r
Tests w Holds (Aim p to t r) = Tests w Holds r
Tests w Holds (If p t a b r) = Chooses w Holds t × Tests w Holds a × Tests w Holds b × Tests w Holds r
Tests w Holds (Block p b r) = Tests w Holds b × Tests w Holds r
Tests w Holds (Loop p n b r) = Tests w Holds b × Tests w Holds r
Tests w Holds (Exit p n r) = Tests w Holds r
Tests w Holds (Wait p l n r) = Tests w Holds r
