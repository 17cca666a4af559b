-- What an emitted side shows of a steady design it shows of every design that means the same.
use Rattle.std.proofs.Common.{◌≡◌, ℕ, ◌+◌, ◌*◌, ◌≤◌, List, [], ◌∷◌, ◌++◌, true, false, nat_eq, ◌&&◌, Option, Some, None, ap, refl, sym, ◌∙◌, subst, arith, if◌then◌else◌, unwrap_or}
use Rattle.std.specs.Prelude.{filter}
use Rattle.std.specs.List.{list_all}
use Rattle.scc_semantics.specs.Location.{Location}
use Rattle.scc_semantics.specs.Design.{Process, Design, locations, clocks, inputs}
use Rattle.scc_semantics.specs.Machine.{Frames, Stop}
use Rattle.scc_semantics.specs.Process.{State, first_frames}
use Rattle.scc_semantics.specs.Run.{Step, Shown, FitsThing, AllFit, EdgeOf, EdgesFit, FitSteps}
use Rattle.scc_semantics.specs.Start.{AllFirst, IsStart, finds_reset, FindsResets}
use Rattle.scc_semantics.specs.Same.{AllTheSame, SameDesign}
use Rattle.scc_semantics.specs.Steady.{IsSteady}
use Rattle.scc_semantics.specs.Statement.{Seen, ShowsTheSame}
use Rattle.scc_semantics_laws.proofs.Order.{proper-too}
use Rattle.scc_semantics_laws.proofs.Places.{proper-at, proper-by}
use Rattle.scc_semantics_laws.proofs.Runs.{same-clocks, same-inputs, proper-back, slow-runs, fast-runs}

-- the first frames of processes numbered from i on
abbrev firsts : ℕ → List Process → ℕ → Frames
firsts i [] j = Stop
firsts i (p ∷ ps) j = if nat_eq i j then first_frames i p else firsts (i + 1) ps j

all-firsts : (i : ℕ) (ps : List Process) (frames : ℕ → Frames) → ((j : ℕ) → i ≤ j → frames j ≡ firsts i ps j) → AllFirst i ps frames
all-firsts i [] frames h = tt
all-firsts i (p ∷ ps) frames h = (
  h i (omega arith) ∙ (let e : nat_eq i i ≡ true = grind arith in ap (λ b. if b then first_frames i p else firsts (i + 1) ps i) e),
  all-firsts (i + 1) ps frames (λ j g. h j (omega arith) ∙ (let e : nat_eq i j ≡ false = grind arith in ap (λ b. if b then first_frames i p else firsts (i + 1) ps j) e)),
)

-- the start of a design with these words
abbrev pub starting_with : Design → State → State
starting_with d s = record { store = record { words = s.store.words; targets = d.targets }; frames = firsts 0 d.processes }

module _ (k : ℕ) (d e : Design) (s : SameDesign k d e) where
  pub start-too : (a : State) → IsStart d a → IsStart e (starting_with e a)
  start-too a h = record { words = proper-too k d e s a.store.words h.words; targets = λ l. refl; frames = all-firsts 0 e.processes (firsts 0 e.processes) (λ j g. refl) }

  start-back : (a : State) → IsStart e a → IsStart d (starting_with d a)
  start-back a h = record {
    words = proper-by d a.store.words (λ l. proper-back k d e s l (a.store.words l) (proper-at e a.store.words h.words l));
    targets = λ l. refl;
    frames = all-firsts 0 d.processes (firsts 0 d.processes) (λ j g. refl);
  }

  inputs-fit : (ls : List Location) (xs : List ℕ) → AllFit d ls xs → AllFit e ls xs
  inputs-fit [] [] h = tt
  inputs-fit (l ∷ ls) (x ∷ xs) h = (subst (λ t. FitsThing t x) (s.things l) h.0, inputs-fit ls xs h.1)
  inputs-fit [] (x ∷ xs) h = h
  inputs-fit (l ∷ ls) [] h = h

  same-edges : clocks d ≡ clocks e
  same-edges = λ z. filter (λ l. same-clocks k d e s d.processes e.processes 0 l s.processes z) (locations (s.ports z))

  edges-fit : (at : Option (List Location)) → EdgesFit d at → EdgesFit e at
  edges-fit None h = tt
  edges-fit (Some at) h = subst (λ cs. EdgeOf cs at) same-edges h

  pub steps-fit : (xs : List Step) → FitSteps d xs → FitSteps e xs
  steps-fit [] h = tt
  steps-fit (x ∷ xs) h = ((inputs-fit (inputs e) x.inputs (subst (λ ls. AllFit d ls x.inputs) (same-inputs k d e s) h.0.0), edges-fit x.edge h.0.1), steps-fit xs h.1)

  same-resets : (before at : List Location) (words : Location → ℕ) (ps qs : List Process) (i : ℕ) → AllTheSame k d e i ps qs → list_all (λ p. finds_reset before at words p.sort) ps ≡ list_all (λ p. finds_reset before at words p.sort) qs
  same-resets before at words [] [] i m = refl
  same-resets before at words (p ∷ ps) (q ∷ qs) i m = λ z. finds_reset before at words (m.0 z) && same-resets before at words ps qs (i + 1) m.2 z
  same-resets before at words [] (q ∷ qs) i m = absurd m
  same-resets before at words (p ∷ ps) [] i m = absurd m

  resets-too : (before : List Location) (xs : List Step) (os : List Shown) → FindsResets d before xs os → FindsResets e before xs os
  resets-too before (x ∷ xs) (o ∷ os) h =
      (sym (same-resets before (unwrap_or x.edge []) o.before.words d.processes e.processes 0 s.processes) ∙ h.0, resets-too (before ++ unwrap_or x.edge []) xs os h.1)
  resets-too before [] [] h = tt
  resets-too before [] (o ∷ os) h = tt
  resets-too before (x ∷ xs) [] h = tt

  module _ (steady : IsSteady e) (Valuation : Type 0) (register : Valuation → Location → Option ℕ) (Runs : Valuation → List Step → List Seen → Type 0) where
    pub carried : ShowsTheSame Valuation register Runs e → ShowsTheSame Valuation register Runs d
    carried m = record {
      source_shows = λ a h xs fit. let o = m.source_shows (starting_with e a) (start-too a h) xs (steps-fit xs fit) in
          (o.0, (k * o.1.0, slow-runs k d e s steady a (starting_with e a) h (start-too a h) (λ l. refl) xs fit (λ i. o.1.0) o.0 o.1.1));
      text_runs = λ x xs fit. m.text_runs x xs (steps-fit xs fit);
      same = λ a x h alike xs fit os shows resets seen runs. m.same (starting_with e a) x (start-too a h) alike xs (steps-fit xs fit) os
          (fast-runs k d e s steady a (starting_with e a) h (start-too a h) (λ l. refl) xs fit (λ i. shows.0) os shows.1) (resets-too [] xs os resets) seen runs;
      starts = (starting_with d m.starts.0, start-back m.starts.0 m.starts.1);
      alike = λ a h. m.alike (starting_with e a) (start-too a h);
    }
