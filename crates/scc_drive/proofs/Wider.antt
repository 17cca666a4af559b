-- The answers of the stages behind the grammar, and of a stimulus.
use Rattle.std.proofs.Common.{◌≡◌, ◌≤◌, ℕ, Bool, List, [], ◌∷◌, length, Option, Some, None, Result, Ok, Err, ap, refl, sym, ◌∙◌, subst, inl, inr, arith}
use Rattle.std.specs.Prelude.{take, IfOk, IfErr}
use Rattle.scc_base.specs.declared.no_memory.NoMemory.{NoMemory}
use Rattle.scc_base.specs.Outside.{Shelf, Told, Rose}
use Rattle.scc_base.specs.declared.code.Code.{Code}
use Rattle.scc_tokens_directives.specs.declared.file.Source.{Source}
use Rattle.scc_drive_errors.specs.declared.spots.Spot.{Spot}
use Rattle.scc_drive_errors.specs.declared.stopped.Stopped.{Stopped}
use Rattle.scc_drive_errors.specs.declared.stopped.Stopped.TheVariants as stopped
use Rattle.scc_drive.specs.Outcome.{Task, simulating, tracing, Outcome, wider, WritesOf, RefusesOf, MissesOf}
use Rattle.scc_drive_errors.specs.Spots.{spot_in, first_spot, moved, IsSpotOf}
use Rattle.scc_drive.specs.declared.joining.Read.{Read}
use Rattle.scc_drive.specs.Answer.{AnswersBy, Asks, Writes, Refuses, Misses}
use Rattle.scc_drive.specs.CommandOutcome.{RootsOutcome}
use Rattle.scc_drive.specs.Stages.{Gives, Asking, Asked, IsJoined, IsOfStimulus, ReadOutcome}
use Rattle.scc_drive.specs.Stops.{RefusesLater, RefusesStimulus, IsLater, is_of_stimulus}
use Rattle.scc_drive.proofs.Joined.{joined_asking}

module _ (C : Outcome → Type 0) (top : List ℕ) (task : Task) (sources : List Source) (comes : C (wider task sources)) where
  pub wider_stops : (many : Bool) (s : Stopped) → ((code : Code) (spot : Spot) (other : Option Spot) → RefusesLater many sources code spot other → RefusesOf task sources code spot other)
      → IsLater many sources s → Gives C top (Err s)
  wider_stops many (stopped.Refused code spot other) given q = (wider task sources, comes, given code spot other q)
  wider_stops many stopped.NoMemory given q = tt
  wider_stops many stopped.BadWords given q = absurd q
  wider_stops many (stopped.Missing name) given q = absurd q
  wider_stops many (stopped.Failed name) given q = absurd q

  pub wider_writes : (text : List ℕ) → WritesOf task top text → Gives C top (Ok text)
  wider_writes text w = (wider task sources, comes, w)

no_bytes : (bytes : List ℕ) → take 0 bytes ≡ []
no_bytes [] = refl
no_bytes (b ∷ bs) = refl

first_of : (name bytes : List ℕ) → IsSpotOf (record { name = name; bytes = bytes } ∷ []) (first_spot name)
unfolding moved
first_of name bytes = (
  record { file = 0; at = 0 },
  (record { name = name; bytes = bytes }, refl, omega arith),
  ap (λ (b : List ℕ). record { file = name; line = (moved 1 1 b).0; column = (moved 1 1 b).1 }) (sym (no_bytes bytes)),
)

-- a task that asks for the stimulus of this name
pub record Stimulated (task : Task) (stim top : List ℕ) (sources : List Source) : Type 0 where
  pub refuses : (code : Code) (spot : Spot) (other : Option Spot) → RefusesStimulus stim code spot other → RefusesOf task sources code spot other
  pub misses : (name : List ℕ) → name ≡ stim → MissesOf task name
  pub writes : (text : List ℕ) → WritesOf task top text

pub simulating_stimulated : (many : Bool) (stim top : List ℕ) (sources : List Source) → Stimulated (simulating many stim) stim top sources
simulating_stimulated many stim top sources = record { refuses = λ code spot other q. inr q; misses = λ name e. e; writes = λ text. tt }

pub tracing_stimulated : (stim top : List ℕ) (sources : List Source) → Stimulated (tracing stim) stim top sources
tracing_stimulated stim top sources = record { refuses = λ code spot other q. inr q; misses = λ name e. e; writes = λ text. tt }

module _ (C : Outcome → Type 0) (top stim : List ℕ) (task : Task) (sources : List Source) (given : Stimulated task stim top sources) (comes : C (wider task sources)) (held : Option Shelf) (m m' f f' : ℕ) where
  -- the answers where the stimulus isn't given
  pub stimulus_lacks : (s : Stopped) → Asked stim held m m' f f' (Err s) → Asking C top held m m' f f' (Err s)
  stimulus_lacks (stopped.Refused code spot other) q = (
    wider task sources,
    comes,
    given.refuses code spot other (
      ap (λ c. is_of_stimulus c) q.0 ∙ refl,
      (record { name = stim; bytes = q.3.0 }, refl, subst (IsSpotOf (record { name = stim; bytes = q.3.0 } ∷ [])) (sym q.1) (first_of stim q.3.0)),
      q.2,
    ),
  )
  stimulus_lacks stopped.NoMemory q = tt
  stimulus_lacks stopped.BadWords q = absurd q
  stimulus_lacks (stopped.Missing name) q = (q.1, (wider task sources, comes, given.misses name q.0), subst (λ n. Told held (λ shelf. shelf n ≡ None)) (sym q.0) q.2)
  stimulus_lacks (stopped.Failed name) q = (q.1, (wider task sources, comes, given.misses name q.0))

  stimulus_refused : (s : Stopped) → IsOfStimulus stim s → Asking C top held m m' f f' (Err s)
  stimulus_refused (stopped.Refused code spot other) q = (wider task sources, comes, given.refuses code spot other q)
  stimulus_refused stopped.NoMemory q = tt
  stimulus_refused stopped.BadWords q = absurd q
  stimulus_refused (stopped.Missing name) q = absurd q
  stimulus_refused (stopped.Failed name) q = absurd q

  -- the answer that a stimulus gives
  pub stimulus_gives : (name : List ℕ) (r : Result (List ℕ) Stopped) → name ≡ stim → IfErr r (IsOfStimulus name) → Asking C top held m m' f f' r
  stimulus_gives name (Ok text) e q = (wider task sources, comes, given.writes text)
  stimulus_gives name (Err s) e q = stimulus_refused s (subst (λ n. IsOfStimulus n s) e q)

module _ (C : Outcome → Type 0) (top stim : List ℕ) (many : Bool) (sources : List Source) (comes : C (wider (simulating many stim) sources)) (held : Option Shelf) (m m' f f' : ℕ) where
  pub simulating_stops : (s : Stopped) → IsLater many sources s → Asking C top held m m' f f' (Err s)
  simulating_stops (stopped.Refused code spot other) q = (wider (simulating many stim) sources, comes, inl q)
  simulating_stops stopped.NoMemory q = tt
  simulating_stops stopped.BadWords q = absurd q
  simulating_stops (stopped.Missing name) q = absurd q
  simulating_stops (stopped.Failed name) q = absurd q

-- ---- what came before

rose_later : (a b c : ℕ) → a ≤ b → Rose b c → Rose a c
rose_later a b c p q = omega (arith, p, q)

pub rose_sooner : (a b c : ℕ) → Rose a b → b ≤ c → Rose a c
rose_sooner a b c p q = omega (arith, p, q)

pub asking_since : (C : Outcome → Type 0) (top : List ℕ) (held held' : Option Shelf) (m0 m m' f0 f f' : ℕ) (r : Result (List ℕ) Stopped) → held' ≡ held → m0 ≤ m → f0 ≤ f
    → Asking C top held' m m' f f' r → Asking C top held m0 m' f0 f' r
asking_since C top held held' m0 m m' f0 f f' (Ok text) same p q a = a
asking_since C top held held' m0 m m' f0 f f' (Err (stopped.Refused code spot other)) same p q a = a
asking_since C top held held' m0 m m' f0 f f' (Err stopped.NoMemory) same p q a = tt
asking_since C top held held' m0 m m' f0 f f' (Err stopped.BadWords) same p q a = absurd a
asking_since C top held held' m0 m m' f0 f f' (Err (stopped.Missing n)) same p q a =
    (rose_later m0 m m' p a.0, a.1, subst (λ h. Told h (λ shelf. shelf n ≡ None)) same a.2)
asking_since C top held held' m0 m m' f0 f f' (Err (stopped.Failed n)) same p q a = (rose_later f0 f f' q a.0, a.1)

pub answers_since : (C : Shelf → Outcome → Type 0) (top : List ℕ) (held held' : Option Shelf) (m0 m m' f0 f f' : ℕ) (r : Result (List ℕ) Stopped) → held' ≡ held → m0 ≤ m → f0 ≤ f
    → AnswersBy C top held' m m' f f' r → AnswersBy C top held m0 m' f0 f' r
answers_since C top held held' m0 m m' f0 f f' (Ok text) same p q a = (a.0, subst (λ h. Told h (Writes C top text)) same a.1)
answers_since C top held held' m0 m m' f0 f f' (Err (stopped.Refused code spot other)) same p q a = (a.0, subst (λ h. Told h (Refuses C code spot other)) same a.1)
answers_since C top held held' m0 m m' f0 f f' (Err stopped.NoMemory) same p q a = tt
answers_since C top held held' m0 m m' f0 f f' (Err stopped.BadWords) same p q a = absurd a
answers_since C top held held' m0 m m' f0 f f' (Err (stopped.Missing n)) same p q a =
    (rose_later m0 m m' p a.0, a.1, subst (λ h. Told h (Misses C n)) same a.2, subst (λ h. Told h (λ shelf. shelf n ≡ None)) same a.3)
answers_since C top held held' m0 m m' f0 f f' (Err (stopped.Failed n)) same p q a = (rose_later f0 f f' q a.0, a.1, subst (λ h. Told h (Asks C n)) same a.2)

pub simulated_by : (roots : List (List ℕ)) (held held' : Option Shelf) (read : Read) (many : Bool) (stim stim' top top' : List ℕ) (m0 m m' f0 f f' : ℕ) (r : Result (List ℕ) Stopped)
    → IsJoined roots held read → held' ≡ held → m0 ≤ m → f0 ≤ f → stim' ≡ stim → top' ≡ top → Asking (ReadOutcome (simulating many stim') top' read) top' held' m m' f f' r
    → AnswersBy (RootsOutcome (simulating many stim) top roots) top held m0 m' f0 f' r
simulated_by roots held held' read many stim stim' top top' m0 m m' f0 f f' r joined same p q e d a =
    joined_asking roots held read joined (simulating many stim) top m0 m' f0 f' r
    (asking_since (ReadOutcome (simulating many stim) top read) top held held' m0 m m' f0 f f' r same p q
    (subst (λ t. Asking (ReadOutcome (simulating many stim) t read) t held' m m' f f' r) d (subst (λ s. Asking (ReadOutcome (simulating many s) top' read) top' held' m m' f f' r) e a)))
