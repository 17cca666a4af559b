-- Any order: a free scheduler of a step (IEEE 1666-2011, 4.2.1.2: the order in which processes run in an evaluation phase isn't determined).
use Rattle.std.specs.Prelude.{◌≡◌, ℕ, suc, Bool, true, false, not, ◌&&◌, nat_eq, List, [], ◌∷◌, filter, length, Option, Some, None, option_map, unwrap_or, slice_get, if◌then◌else◌}
use Rattle.std.specs.List.{list_any}
use Rattle.scc_bits_kinds.specs.declared.kind.Kind.{Kind}
use Rattle.scc_semantics.specs.Location.{Location}
use Rattle.scc_semantics.specs.Places.{Signal, Sort, Combinational}
use Rattle.scc_semantics.specs.Design.{Process, Design}
use Rattle.scc_semantics.specs.Process.{State, Phase, Went, Well, and_then, resume, update, is_combinational}
use Rattle.scc_semantics.specs.Run.{Step, Observation, Shown, Shows, FitSteps, observed, with_inputs, restarts, resumes_at}
use Rattle.scc_semantics.specs.Start.{IsStart}

-- the state, and the signals as each method found them when it ran last; None where it has not run yet
pub record Running : Type 0 where
  pub state : State
  pub found : ℕ → Option (Location → ℕ)

abbrev pub process_at : Design → ℕ → Option Process
process_at d i = slice_get d.processes i

abbrev pub is_method : Design → ℕ → Bool
is_method d i = unwrap_or (option_map is_combinational (process_at d i)) false

abbrev pub senses_of : Sort → List Location
senses_of (Combinational senses) = senses
senses_of _ = []

-- a listed signal has another word than when the method ran last, or it has not run yet
abbrev pub has_changed : Option (Location → ℕ) → (Location → ℕ) → List Location → Bool
has_changed None now senses = true
has_changed (Some old) now senses = list_any (λ l. not (nat_eq (old l) (now l))) senses

abbrev pub must_run : Design → Running → ℕ → Bool
must_run d r i = unwrap_or (option_map (λ p. is_combinational p && has_changed (r.found i) r.state.store.words (senses_of p.sort)) (process_at d i)) false

abbrev pub among : ℕ → List ℕ → Bool
among i is = list_any (nat_eq i) is

-- methods alone, at least those that must run; in any order and with repeats
pub record Covers (d : Design) (r : Running) (runs : List ℕ) : Type 0 where
  pub methods : (i : ℕ) → among i runs ≡ true → is_method d i ≡ true
  pub all : (i : ℕ) → must_run d r i ≡ true → among i runs ≡ true

abbrev pub starting : State → Phase
starting s = record { held = record { store = s.store; requests = [] }; frames = s.frames }

module _ (bounds : ℕ → ℕ) (d : Design) where
  -- these processes one after another, all on the same signals
  abbrev pub run_list : (Location → ℕ) → List ℕ → Phase → Went Phase
  run_list signals [] s = Well s
  run_list signals (i ∷ is) s = and_then (unwrap_or (option_map (λ p. resume bounds d signals i p s) (process_at d i)) (Well s)) (run_list signals is)

  -- then the requests take effect together
  abbrev pub round : List ℕ → State → Went State
  round runs s = and_then (run_list s.store.words runs (starting s)) (λ t. Well (update bounds d t))

  abbrev pub found_after : List ℕ → Running → ℕ → Option (Location → ℕ)
  found_after runs r i = if among i runs then Some r.state.store.words else r.found i

  -- A settling of n rounds: it ends after a round that changes no signal.
  pub data Settles : ℕ → Running → Running → Type 0 where
    last : (runs : List ℕ) (r : Running) (s : State) → Covers d r runs → round runs r.state ≡ Well s
        → ((l : Location) (k : Kind) → d.places.things l ≡ Some (Signal k) → s.store.words l ≡ r.state.store.words l)
        → Settles 1 r (record { state = s; found = found_after runs r })
    goes : {n : ℕ} {r : Running} {t : Running} → (runs : List ℕ) (s : State) → Covers d r runs → round runs r.state ≡ Well s
        → Settles n (record { state = s; found = found_after runs r }) t → Settles (suc n) r t

  -- each process of that sort once, in any order
  pub record EachOnce (test : Process → Bool) (order : List ℕ) : Type 0 where
    pub all : (i : ℕ) (p : Process) → process_at d i ≡ Some p → test p ≡ true → among i order ≡ true
    pub only : (i : ℕ) → among i order ≡ true → (p : Process) × (process_at d i ≡ Some p) × (test p ≡ true)
    pub once : length order ≡ length (filter test d.processes)

  abbrev pub given : List ℕ → Running → State
  given xs r = with_inputs d xs r.state

  -- the beginning of a step: the inputs are set, threads under asynchronous reset restart in any order, and the design settles
  pub record Begins (xs : List ℕ) (r t : Running) : Type 0 where
    pub order : List ℕ
    pub once : EachOnce (restarts (given xs r)) order
    pub state : State
    pub runs : round order (given xs r) ≡ Well state
    pub rounds : ℕ
    pub settles : Settles rounds (record { state = state; found = r.found }) t

  -- the edge: its processes resume once each, in any order, and the design settles
  pub record Edged (at : List Location) (r t : Running) : Type 0 where
    pub order : List ℕ
    pub once : EachOnce (resumes_at at) order
    pub state : State
    pub runs : round order r.state ≡ Well state
    pub rounds : ℕ
    pub settles : Settles rounds (record { state = state; found = r.found }) t

  -- what a scheduler's steps show
  pub data Scheduled : Running → List Step → List Shown → Type 0 where
    done : (r : Running) → Scheduled r [] []
    held : {t : Running} {xs : List Step} {os : List Shown} → (words : List ℕ) (r : Running) → Begins words r t → Scheduled t xs os
        → Scheduled r (record { inputs = words; edge = None } ∷ xs) (record { before = observed d t.state; after = None } ∷ os)
    edged : {t u : Running} {xs : List Step} {os : List Shown} → (words : List ℕ) (at : List Location) (r : Running) → Begins words r t → Edged at t u → Scheduled u xs os
        → Scheduled r (record { inputs = words; edge = Some at } ∷ xs) (record { before = observed d t.state; after = Some (observed d u.state) } ∷ os)

-- no method has run yet
abbrev pub fresh : State → Running
fresh s = record { state = s; found = λ i. None }

-- what is observed of outputs and registers is the same
pub record SameObservation (registers : Location → Bool) (a b : Observation) : Type 0 where
  pub outputs : a.outputs ≡ b.outputs
  pub words : (l : Location) → registers l ≡ true → a.words l ≡ b.words l

abbrev pub SameAfter : (Location → Bool) → Option Observation → Option Observation → Type 0
SameAfter registers None None = Unit {0}
SameAfter registers (Some a) (Some b) = SameObservation registers a b
SameAfter registers _ _ = ⊥

abbrev pub SameShown : (Location → Bool) → List Shown → List Shown → Type 0
SameShown registers [] [] = Unit {0}
SameShown registers (a ∷ more) (b ∷ rest) = SameObservation registers a.before b.before × SameAfter registers a.after b.after × SameShown registers more rest
SameShown registers _ _ = ⊥

-- Any order shows the same: whatever some schedule of the steps shows is what the design shows.
abbrev pub AnyOrder : (Location → Bool) → Design → Type 0
AnyOrder registers d = (s : State) → IsStart d s → (xs : List Step) → FitSteps d xs → (os ps : List Shown) (bound : ℕ)
    → Shows d s xs os → Scheduled (λ i. bound) d (fresh s) xs ps → SameShown registers os ps
