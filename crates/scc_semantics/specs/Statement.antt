-- An emitted text shows what a design shows: the statement of the main theorem for any emitted side (a module, modules with instances, a module with
-- memories; with one clock or several). This project's own.
use Rattle.std.specs.Prelude.{◌≡◌, ℕ, List, [], ◌∷◌, Option, Some, None}
use Rattle.scc_semantics.specs.Location.{Location}
use Rattle.scc_semantics.specs.Design.{Design}
use Rattle.scc_semantics.specs.Process.{State}
use Rattle.scc_semantics.specs.Run.{Step, Observation, Shown, Shows, FitSteps}
use Rattle.scc_semantics.specs.Start.{IsStart, FindsResets}

-- What is observed of an emitted side: the words of its outputs in order, and of each register that has a location's name, by that location.
pub record Shot : Type 0 where
  pub outputs : List ℕ
  pub registers : Location → Option ℕ

-- in a step: before its edge, and, where it has one, after it
pub record Seen : Type 0 where
  pub before : Shot
  pub after : Option Shot

-- The same outputs and registers. What a register holds that has no location, as a thread's state and counter, isn't compared.
pub record SameShot (o : Observation) (s : Shot) : Type 0 where
  pub outputs : o.outputs ≡ s.outputs
  pub registers : (l : Location) (w : ℕ) → s.registers l ≡ Some w → o.words l ≡ w

abbrev pub SameAfter : Option Observation → Option Shot → Type 0
SameAfter None None = Unit {0}
SameAfter (Some o) (Some s) = SameShot o s
SameAfter _ _ = ⊥

abbrev pub AllSame : List Shown → List Seen → Type 0
AllSame [] [] = Unit {0}
AllSame (o ∷ os) (s ∷ ss) = SameShot o.before s.before × SameAfter o.after s.after × AllSame os ss
AllSame _ _ = ⊥

-- The emitted side: what it starts from, what its registers that have a location's name hold there, and what it shows over steps. A valuation need not fit, and
-- says nothing of what combinational blocks assign.
module _ (Valuation : Type 0) (register : Valuation → Location → Option ℕ) (Runs : Valuation → List Step → List Seen → Type 0) where
  -- a start of the design and a valuation are alike where each register with a location's name holds its word
  abbrev pub AreAlike : State → Valuation → Type 0
  AreAlike s x = (l : Location) (w : ℕ) → register x l ≡ Some w → s.store.words l ≡ w

  -- Both sides go through all steps that fit, with nothing asked of resets; and from alike starts, where each clock's first edge finds the resets active that
  -- are declared, in what the source shows before it, everything that the text shows is what the source shows, observation by observation.
  pub record ShowsTheSame (d : Design) : Type 0 where
    pub source_shows : (s : State) → IsStart d s → (xs : List Step) → FitSteps d xs → (os : List Shown) × Shows d s xs os
    pub text_runs : (x : Valuation) (xs : List Step) → FitSteps d xs → (seen : List Seen) × Runs x xs seen
    pub same : (s : State) (x : Valuation) → IsStart d s → AreAlike s x → (xs : List Step) → FitSteps d xs
        → (os : List Shown) → Shows d s xs os → FindsResets d [] xs os
        → (seen : List Seen) → Runs x xs seen → AllSame os seen
    -- some start, and for each a valuation that is alike: the statement isn't about nothing
    pub starts : (s : State) × IsStart d s
    pub alike : (s : State) → IsStart d s → (x : Valuation) × AreAlike s x
