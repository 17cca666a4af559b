-- With more statements allowed a design that goes well shows the same.
use Rattle.std.proofs.Common.{◌≡◌, ℕ, zero, suc, ◌+◌, ◌≤◌, Bool, true, false, List, [], ◌∷◌, length, filter, Option, Some, None, sym, ap, ◌∙◌, arith, if◌then◌else◌}
use Rattle.scc_semantics.specs.Location.{Location}
use Rattle.scc_semantics.specs.Places.{Sort}
use Rattle.scc_semantics.specs.Design.{Process, Design}
use Rattle.scc_semantics.specs.Machine.{Frames, Outcome, Suspended, Ended, Stuck, Unfinished}
use Rattle.scc_semantics.specs.Process.{State, Phase, Went, Well, and_then, left_by, resume, resume_all, resumed_frames, phase, update, rounds, settle, is_combinational}
use Rattle.scc_semantics.specs.Run.{Step, Shown, Shows, observed, with_inputs, restarts, resumes_at, begun, edged, finished, step, shown}
use Rattle.scc_semantics_laws.specs.Words.{IsOver}
use Rattle.scc_semantics_laws.proofs.Bound.{run-later}
use Rattle.scc_semantics_laws.proofs.Sim.{well-is, well-same}

and-later : {A B : Type 0} (w v : Went A) (f g : A → Went B) (y : B) → ((x : A) → w ≡ Well x → v ≡ Well x) → ((x : A) (y : B) → f x ≡ Well y → g x ≡ Well y) → and_then w f ≡ Well y → and_then v g ≡ Well y
and-later w v f g y h k e = let d = well-is w f y e in ap (λ o. and_then o g) (h d.0 d.1) ∙ k d.0 y d.2

over : (sort : Sort) (i : ℕ) (frames : ℕ → Frames) (o : Outcome) (t : Phase) → left_by sort i frames o ≡ Well t → IsOver o
over sort i frames (Suspended f h) t e = tt
over sort i frames (Ended h) t e = tt
over sort i frames (Stuck h) t e = tt
over sort i frames Unfinished t e = absurd (cc)

module _ (d : Design) (a b : ℕ) (le : a ≤ b) where
  resume-later : (signals : Location → ℕ) (i : ℕ) (p : Process) (s t : Phase) → resume (λ i. a) d signals i p s ≡ Well t → resume (λ i. b) d signals i p s ≡ Well t
  resume-later signals i p s t e = ap (left_by p.sort i s.frames) (run-later d.places d.functions signals a b le (resumed_frames signals i p p.sort s.frames) s.held (over p.sort i s.frames _ t e)) ∙ e

  all-later : (signals : Location → ℕ) (test : Process → Bool) (i : ℕ) (ps : List Process) (s t : Phase) → resume_all (λ i. a) d signals test i ps s ≡ Well t → resume_all (λ i. b) d signals test i ps s ≡ Well t
  all-later signals test i [] s t e = e
  all-later signals test i (p ∷ ps) s t e =
      and-later (if test p then resume (λ i. a) d signals i p s else Well s) (if test p then resume (λ i. b) d signals i p s else Well s)
      (resume_all (λ i. a) d signals test (i + 1) ps) (resume_all (λ i. b) d signals test (i + 1) ps) t (by (test p)) (λ x y h. all-later signals test (i + 1) ps x y h) e
    where
      by : (z : Bool) (x : Phase) → (if z then resume (λ i. a) d signals i p s else Well s) ≡ Well x → (if z then resume (λ i. b) d signals i p s else Well s) ≡ Well x
      by true x h = resume-later signals i p s x h
      by false x h = h

  phase-later : (test : Process → Bool) (s t : State) → phase (λ i. a) d test s ≡ Well t → phase (λ i. b) d test s ≡ Well t
  phase-later test s t e = and-later (resume_all (λ i. a) d s.store.words test 0 d.processes start) (resume_all (λ i. b) d s.store.words test 0 d.processes start) (λ t. Well (update (λ i. a) d t)) (λ t. Well (update (λ i. b) d t)) t
      (λ x h. all-later s.store.words test 0 d.processes start x h) (λ x y h. h) e
    where
      start : Phase
      start = record { held = record { store = s.store; requests = [] }; frames = s.frames }

  rounds-later : (n : ℕ) (s t : State) → rounds (λ i. a) d n s ≡ Well t → rounds (λ i. b) d n s ≡ Well t
  rounds-later zero s t e = e
  rounds-later (suc n) s t e = and-later (phase (λ i. a) d is_combinational s) (phase (λ i. b) d is_combinational s) (rounds (λ i. a) d n) (rounds (λ i. b) d n) t (λ x h. phase-later is_combinational s x h) (λ x y h. rounds-later n x y h) e

  then-settle : (test : Process → Bool) (s t : State) → and_then (phase (λ i. a) d test s) (settle (λ i. a) d) ≡ Well t → and_then (phase (λ i. b) d test s) (settle (λ i. b) d) ≡ Well t
  then-settle test s t e = and-later (phase (λ i. a) d test s) (phase (λ i. b) d test s) (settle (λ i. a) d) (settle (λ i. b) d) t (λ x h. phase-later test s x h) (λ x y h. rounds-later (suc (length (filter is_combinational d.processes))) x y h) e

  finished-later : (o : Option (List Location)) (s : State) (t : State × Shown) → finished (λ i. a) d o s ≡ Well t → finished (λ i. b) d o s ≡ Well t
  finished-later None s t e = e
  finished-later (Some at) s t e = and-later (edged (λ i. a) d at s) (edged (λ i. b) d at s) last last t (λ x h. then-settle (resumes_at at) s x h) (λ x y h. h) e
    where
      last : State → Went (State × Shown)
      last t = Well (t, record { before = observed d s; after = Some (observed d t) })

  step-later : (x : Step) (s : State) (t : State × Shown) → step (λ i. a) d x s ≡ Well t → step (λ i. b) d x s ≡ Well t
  step-later x s t e = and-later (begun (λ i. a) d x.inputs s) (begun (λ i. b) d x.inputs s) (finished (λ i. a) d x.edge) (finished (λ i. b) d x.edge) t
      (λ y h. then-settle (restarts (with_inputs d x.inputs s)) (with_inputs d x.inputs s) y h) (λ y z h. finished-later x.edge y z h) e

  pub shown-later : (xs : List Step) (s : State) (os : List Shown) → shown (λ i. a) d xs s ≡ Well os → shown (λ i. b) d xs s ≡ Well os
  shown-later [] s os e = e
  shown-later (x ∷ xs) s os e = and-later (step (λ i. a) d x s) (step (λ i. b) d x s) (more (shown (λ i. a) d xs)) (more (shown (λ i. b) d xs)) os (λ y h. step-later x s y h)
      (λ y z h. and-later (shown (λ i. a) d xs y.0) (shown (λ i. b) d xs y.0) (put y) (put y) z (λ u k. shown-later xs y.0 u k) (λ u v k. k) h) e
    where
      put : State × Shown → List Shown → Went (List Shown)
      put r more = Well (r.1 ∷ more)

      more : (State → Went (List Shown)) → State × Shown → Went (List Shown)
      more f r = and_then (f r.0) (λ more. Well (r.1 ∷ more))

pub one-run : (d : Design) (s : State) (xs : List Step) (os ps : List Shown) → Shows d s xs os → Shows d s xs ps → os ≡ ps
one-run d s xs os ps a b = well-same os ps (sym (shown-later d a.0 (a.0 + b.0) (omega arith) xs s os a.1) ∙ shown-later d b.0 (a.0 + b.0) (omega arith) xs s ps b.1)
