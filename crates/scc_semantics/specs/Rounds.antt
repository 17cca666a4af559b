-- How long a settling in any order goes on (IEEE 1666-2011, 4.2.1.2; the bound is this project's own).
use Rattle.std.specs.Prelude.{◌≡◌, ◌≢◌, ℕ, zero, suc, ◌≤◌, List, length, filter, Some}
use Rattle.scc_bits_kinds.specs.declared.kind.Kind.{Kind}
use Rattle.scc_semantics.specs.Location.{Location}
use Rattle.scc_semantics.specs.Places.{Signal}
use Rattle.scc_semantics.specs.Design.{Design, inputs}
use Rattle.scc_semantics.specs.Process.{State, Well, is_combinational}
use Rattle.scc_semantics.specs.Run.{AllFit, resumes_at}
use Rattle.scc_semantics.specs.Run as run
use Rattle.scc_semantics.specs.Schedule.{Running, Covers, EachOnce, fresh, found_after, given, round}
use Rattle.scc_semantics.specs.Start.{IsStart}

module _ (bounds : ℕ → ℕ) (d : Design) where
  -- What a free scheduler can come to: a start, in which no method has run yet; then, one behind another, rounds of methods, at least those that must run; new
  -- inputs; and the threads that restart, and the processes of an edge, once each and in any order.
  pub data Reached : Running → Type 0 where
    starts : (s : State) → IsStart d s → Reached (fresh s)
    settles : (runs : List ℕ) (r : Running) (s : State) → Covers d r runs → round bounds d runs r.state ≡ Well s → Reached r → Reached (record { state = s; found = found_after bounds d runs r })
    takes : (words : List ℕ) (r : Running) → AllFit d (inputs d) words → Reached r → Reached (record { state = given bounds d words r; found = r.found })
    begins : (order : List ℕ) (r : Running) (s : State) → EachOnce bounds d (run.restarts r.state) order → round bounds d order r.state ≡ Well s → Reached r → Reached (record { state = s; found = r.found })
    resumes : (at : List Location) (order : List ℕ) (r : Running) (s : State) → EachOnce bounds d (resumes_at at) order → round bounds d order r.state ≡ Well s → Reached r → Reached (record { state = s; found = r.found })

-- some signal has another word
pub record Changes (d : Design) (s t : State) : Type 0 where
  pub signal : Location
  pub kind : Kind
  pub stands : d.places.things signal ≡ Some (Signal kind)
  pub other : t.store.words signal ≢ s.store.words signal

-- so many rounds of methods, at least those that must run, in any order and with repeats, each of which changes a signal
pub data Restless (bounds : ℕ → ℕ) (d : Design) : ℕ → Running → Type 0 where
  still : (r : Running) → Restless bounds d zero r
  again : {n : ℕ} → (runs : List ℕ) (r : Running) (s : State) → Covers d r runs → round bounds d runs r.state ≡ Well s → Changes d r.state s
      → Restless bounds d n (record { state = s; found = found_after bounds d runs r }) → Restless bounds d (suc n) r

-- From all that a scheduler can come to at most as many rounds change something as there are methods; so a settling ends after one more.
abbrev pub EndsSoon : Design → Type 0
EndsSoon d = (bounds : ℕ → ℕ) (n : ℕ) (r : Running) → Reached bounds d r → Restless bounds d n r → n ≤ length (filter is_combinational d.processes)
