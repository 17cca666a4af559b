-- Steps of a design, what is observed in them, and starts (IEEE 1666-2011, 4.2.1; a step and what it shows are this project's own).
use Rattle.std.specs.Prelude.{◌≡◌, ℕ, ◌<◌, ◌^◌, List, [], ◌∷◌, map, Bool, true, false, ◌&&◌, Option, Some, None}
use Rattle.std.specs.List.{list_any}
use Rattle.scc_bits_kinds.specs.Kinds.{width_of}
use Rattle.scc_semantics.specs.Location.{Location, same}
use Rattle.scc_semantics.specs.Places.{Thing, Number, Signal, Port, Sort, Combinational, Clocked, Thread}
use Rattle.scc_semantics.specs.Store.{changed}
use Rattle.scc_semantics.specs.Design.{Process, Design, clocks, inputs, outputs}
use Rattle.scc_semantics.specs.Process.{State, Went, Well, and_then, is_active, phase, settle}

-- One word for each input but the clocks; and the clocks that have their edge, or None for a step without an edge. A design without
-- clocks has an edge that no process meets.
pub record Step : Type 0 where
  pub inputs : List ℕ
  pub edge : Option (List Location)

-- the words of the outputs in order, and of every numeric location
pub record Observation : Type 0 where
  pub outputs : List ℕ
  pub words : Location → ℕ

-- what a step shows: before its edge, and, where it has one, after it
pub record Shown : Type 0 where
  pub before : Observation
  pub after : Option Observation

-- the word at a location: a port below the top shows its root's
abbrev pub word_at : Option Thing → (Location → ℕ) → Location → ℕ
word_at (Some (Number k)) words l = words l
word_at (Some (Signal k)) words l = words l
word_at (Some (Port k root)) words l = words root
word_at None words l = 0

abbrev pub observed : Design → State → Observation
observed d s = record {
  outputs = map (λ l. word_at (d.places.things l) s.store.words l) (outputs d);
  words = λ l. word_at (d.places.things l) s.store.words l;
}

abbrev pub set_inputs : List Location → List ℕ → (Location → ℕ) → Location → ℕ
set_inputs (l ∷ ls) (x ∷ xs) words = set_inputs ls xs (changed l x words)
set_inputs _ _ words = words

abbrev pub with_inputs : Design → List ℕ → State → State
with_inputs d xs s = record { store = record { words = set_inputs (inputs d) xs s.store.words; targets = s.store.targets }; frames = s.frames }

-- a thread whose asynchronous reset is active restarts when the inputs are set
abbrev pub restarts_by : (Location → ℕ) → Sort → Bool
restarts_by signals (Thread edge (Some r)) = r.asynchronous && is_active signals r
restarts_by signals _ = false

abbrev pub restarts : State → Process → Bool
restarts s p = restarts_by s.store.words p.sort

abbrev pub has_edge : List Location → Sort → Bool
has_edge at (Combinational senses) = false
has_edge at (Clocked edge) = list_any (same edge.clock) at
has_edge at (Thread edge reset) = list_any (same edge.clock) at

-- a process that resumes at the edges of these clocks
abbrev pub resumes_at : List Location → Process → Bool
resumes_at at p = has_edge at p.sort

-- So many statements are allowed to each process in a resume.
module _ (bounds : ℕ → ℕ) (d : Design) where
  -- the inputs are set, threads under asynchronous reset restart, and the design settles
  abbrev pub begun : List ℕ → State → Went State
  begun xs s = and_then (phase bounds d (restarts (with_inputs d xs s)) (with_inputs d xs s)) (settle bounds d)

  -- at the edges of these clocks their processes resume, and the design settles
  abbrev pub edged : List Location → State → Went State
  edged at s = and_then (phase bounds d (resumes_at at) s) (settle bounds d)

  -- the state after a step, with what it shows
  abbrev pub finished : Option (List Location) → State → Went (State × Shown)
  finished None s = Well (s, record { before = observed d s; after = None })
  finished (Some at) s = and_then (edged at s) (λ t. Well (t, record { before = observed d s; after = Some (observed d t) }))

  abbrev pub step : Step → State → Went (State × Shown)
  step x s = and_then (begun x.inputs s) (finished x.edge)

  -- what the steps show, one after another
  abbrev pub shown : List Step → State → Went (List Shown)
  shown [] s = Well []
  shown (x ∷ xs) s = and_then (step x s) (λ r. and_then (shown xs r.0) (λ more. Well (r.1 ∷ more)))

-- from this start these steps show this: with some number of statements allowed in each resume
abbrev pub Shows : Design → State → List Step → List Shown → Type 0
Shows d start steps observations = (bound : ℕ) × (shown (λ _. bound) d steps start ≡ Well observations)

-- a word that a location may hold
abbrev pub FitsThing : Option Thing → ℕ → Type 0
FitsThing (Some (Number k)) x = x < 2 ^ width_of k
FitsThing (Some (Signal k)) x = x < 2 ^ width_of k
FitsThing _ x = Unit {0}

-- one word for each of these, that it may hold
abbrev pub AllFit : Design → List Location → List ℕ → Type 0
AllFit d [] [] = Unit {0}
AllFit d (l ∷ ls) (x ∷ xs) = FitsThing (d.places.things l) x × AllFit d ls xs
AllFit d _ _ = ⊥

abbrev pub AllAmong : List Location → List Location → Type 0
AllAmong all [] = Unit {0}
AllAmong all (l ∷ ls) = (list_any (same l) all ≡ true) × AllAmong all ls

abbrev pub NotEmpty : List Location → Type 0
NotEmpty [] = ⊥
NotEmpty (l ∷ ls) = Unit {0}

-- An edge is one of some clocks of the design; where it has none, it is one of none.
abbrev pub EdgeOf : (all at : List Location) → Type 0
EdgeOf [] at = at ≡ []
EdgeOf (c ∷ cs) at = NotEmpty at × AllAmong (c ∷ cs) at

abbrev pub EdgesFit : Design → Option (List Location) → Type 0
EdgesFit d None = Unit {0}
EdgesFit d (Some at) = EdgeOf (clocks d) at

-- a step that the design can take
abbrev pub FitsStep : Design → Step → Type 0
FitsStep d x = AllFit d (inputs d) x.inputs × EdgesFit d x.edge

abbrev pub FitSteps : Design → List Step → Type 0
FitSteps d [] = Unit {0}
FitSteps d (x ∷ xs) = FitsStep d x × FitSteps d xs
