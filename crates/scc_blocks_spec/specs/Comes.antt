-- What a process comes to in all its resumes, and what may be taken for fixed along them. This project's own.
use Rattle.std.specs.Prelude.{◌≡◌, ℕ, Bool, true, false, not, [], Option, Some, slice_get, if◌then◌else◌}
use Rattle.scc_semantics.specs.Location.{Location}
use Rattle.scc_semantics.specs.Body as machine
use Rattle.scc_semantics.specs.Design as running
use Rattle.scc_semantics.specs.Machine.{Frames, Stop, Go, Suspended, Ended, after}
use Rattle.scc_semantics.specs.Process.{first_frames}
use Rattle.scc_semantics.specs.Value.{Held}
use Rattle.scc_semantics.specs.Start.{IsProper}
use Rattle.scc_semantics.specs.Same.{is_others}

-- the next statement assigns a pointer, and isn't its declaration; or it is a wait
abbrev pub next_points : Frames → Bool
next_points Stop = false
next_points (Go mark m machine.End k) = next_points k
next_points (Go mark m (machine.Point declares l t r) k) = not declares
next_points f = false

abbrev pub next_waits : Frames → Bool
next_waits Stop = false
next_waits (Go mark m machine.End k) = next_waits k
next_waits (Go mark m (machine.Wait number count r) k) = true
next_waits f = false

abbrev pub fresh : (Location → ℕ) → (Location → Option Location) → Held
fresh words targets = record { store = record { words = words; targets = targets }; requests = [] }

-- What a process comes to, statement by statement, with the signals of its resume. At a wait it goes on with other proper words and signals; there,
-- and at its end, it may also begin again. Pointers keep their targets, but for those of other processes, which lead anywhere.
pub data Comes (d : running.Design) (i : ℕ) (p : running.Process) : (signals : Location → ℕ) → Frames → Held → Type 0 where
  begins : (signals words : Location → ℕ) → IsProper d signals → IsProper d words → Comes d i p signals (first_frames i p) (fresh words d.targets)
  goes_on : {signals : Location → ℕ} {f g : Frames} {h k : Held} → Comes d i p signals f h → next_waits f ≡ false
      → after d.places d.functions signals 1 f h ≡ Suspended g k → Comes d i p signals g k
  resumes : {old : Location → ℕ} {f g : Frames} {h k : Held} → (signals words : Location → ℕ) → IsProper d signals → IsProper d words
      → Comes d i p old f h → next_waits f ≡ true → after d.places d.functions old 1 f h ≡ Suspended g k → Comes d i p signals g (fresh words k.store.targets)
  restarts : {old : Location → ℕ} {f : Frames} {h : Held} → (signals words : Location → ℕ) → IsProper d signals → IsProper d words
      → Comes d i p old f h → next_waits f ≡ true → Comes d i p signals (first_frames i p) (fresh words h.store.targets)
  repeats : {old : Location → ℕ} {f : Frames} {h k : Held} → (signals words : Location → ℕ) → IsProper d signals → IsProper d words
      → Comes d i p old f h → after d.places d.functions old 1 f h ≡ Ended k → Comes d i p signals (first_frames i p) (fresh words k.store.targets)
  elsewhere : {signals : Location → ℕ} {f : Frames} {h : Held} → (others : Location → Option Location) → Comes d i p signals f h
      → Comes d i p signals f (record { store = record { words = h.store.words; targets = λ l. if is_others i l.root then others l else h.store.targets l }; requests = h.requests })

-- Along whatever its processes come to, fixed locations keep their words, and no pointer is assigned behind its declaration.
pub record Keeps (d : running.Design) : Type 0 where
  pub fixed : (i : ℕ) (p : running.Process) (signals : Location → ℕ) (f : Frames) (h : Held) (l : Location) (w : ℕ)
      → slice_get d.processes i ≡ Some p → Comes d i p signals f h → d.fixed l ≡ Some w → h.store.words l ≡ w
  pub pointers : (i : ℕ) (p : running.Process) (signals : Location → ℕ) (f : Frames) (h : Held)
      → slice_get d.processes i ≡ Some p → Comes d i p signals f h → next_points f ≡ false
