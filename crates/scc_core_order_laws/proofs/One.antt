-- However many statements are allowed, what goes well comes to one end.
use Rattle.std.proofs.Common.{◌≡◌, ℕ, zero, suc, ◌+◌, List, [], ◌∷◌, filter, length, Bool, true, false, Option, Some, None, sym, ap, ◌∙◌, if◌then◌else◌}
use Rattle.scc_semantics.specs.Location.{Location}
use Rattle.scc_semantics.specs.Places.{Sort}
use Rattle.scc_semantics.specs.Design.{Process, Design}
use Rattle.scc_semantics.specs.Machine.{Frames, Outcome, Suspended, Ended, Stuck, Unfinished, run}
use Rattle.scc_semantics.specs.Process.{State, Phase, Went, Well, and_then, is_combinational, left_by, resumed_frames, resume, resume_all, update, phase, rounds, settle}
use Rattle.scc_semantics.specs.Run.{Step, observed, with_inputs, restarts, resumes_at, begun, edged, finished, step, shown}
use Rattle.scc_semantics.specs.Schedule.{starting}
use Rattle.scc_semantics_laws.specs.Words.{IsOver}
use Rattle.scc_semantics_laws.proofs.Bound.{run-one}
use Rattle.scc_semantics_laws.proofs.Sim.{well-is, well-same}

-- two goes that come to the same where both go well
abbrev pub One : {A : Type 0} → Went A → Went A → Type 0
One {A = A} o p = (x y : A) → o ≡ Well x → p ≡ Well y → x ≡ y

pub one-then : {A B : Type 0} (o p : Went A) (f g : A → Went B) → One o p → ((x : A) → One (f x) (g x)) → One (and_then o f) (and_then p g)
one-then o p f g h k x y e m =
    let a = well-is o f x e in
    let b = well-is p g y m in
    k a.0 x y a.2 (ap g (h a.0 b.0 a.1 b.1) ∙ b.2)

pub one-well : {A : Type 0} (x : A) → One (Well x) (Well x)
one-well z x y e m = well-same x y (sym e ∙ m)

module _ (b c : ℕ → ℕ) (d : Design) where
  left-over : (sort : Sort) (i : ℕ) (frames : ℕ → Frames) (o : Outcome) (x : Phase) → left_by sort i frames o ≡ Well x → IsOver o
  left-over sort i frames (Suspended f h) x e = tt
  left-over sort i frames (Ended h) x e = tt
  left-over sort i frames (Stuck h) x e = tt
  left-over sort i frames Unfinished x e = absurd cc

  pub one-resume : (signals : Location → ℕ) (i : ℕ) (p : Process) (s : Phase) → One (resume b d signals i p s) (resume c d signals i p s)
  one-resume signals i p s x y e m =
      let f = resumed_frames signals i p p.sort s.frames in
      let same = run-one d.places d.functions signals (b i) (c i) f s.held (left-over p.sort i s.frames (run d.places d.functions signals (b i) f s.held) x e) (left-over p.sort i s.frames (run d.places d.functions signals (c i) f s.held) y m) in
      well-same x y (sym e ∙ ap (left_by p.sort i s.frames) same ∙ m)

  one-all : (signals : Location → ℕ) (test : Process → Bool) (i : ℕ) (ps : List Process) (s : Phase) → One (resume_all b d signals test i ps s) (resume_all c d signals test i ps s)
  one-all signals test i [] s = one-well s
  one-all signals test i (p ∷ ps) s =
      one-then (if test p then resume b d signals i p s else Well s) (if test p then resume c d signals i p s else Well s) (resume_all b d signals test (i + 1) ps) (resume_all c d signals test (i + 1) ps)
      (by (test p)) (λ t. one-all signals test (i + 1) ps t)
    where
      by : (t : Bool) → One (if t then resume b d signals i p s else Well s) (if t then resume c d signals i p s else Well s)
      by true = one-resume signals i p s
      by false = one-well s

  one-phase : (test : Process → Bool) (s : State) → One (phase b d test s) (phase c d test s)
  one-phase test s =
      one-then (resume_all b d s.store.words test 0 d.processes (starting s)) (resume_all c d s.store.words test 0 d.processes (starting s)) (λ t. Well (update b d t)) (λ t. Well (update c d t))
      (one-all s.store.words test 0 d.processes (starting s)) (λ t. one-well (update b d t))

  one-rounds : (n : ℕ) (s : State) → One (rounds b d n s) (rounds c d n s)
  one-rounds zero s = one-well s
  one-rounds (suc n) s = one-then (phase b d is_combinational s) (phase c d is_combinational s) (rounds b d n) (rounds c d n) (one-phase is_combinational s) (λ t. one-rounds n t)

  one-settle : (s : State) → One (settle b d s) (settle c d s)
  one-settle s = one-rounds (suc (length (filter is_combinational d.processes))) s

  one-step : (x : Step) (s : State) → One (step b d x s) (step c d x s)
  one-step x s =
      one-then (begun b d x.inputs s) (begun c d x.inputs s) (finished b d x.edge) (finished c d x.edge)
      (one-then (phase b d (restarts (with_inputs d x.inputs s)) (with_inputs d x.inputs s)) (phase c d (restarts (with_inputs d x.inputs s)) (with_inputs d x.inputs s)) (settle b d) (settle c d)
      (one-phase (restarts (with_inputs d x.inputs s)) (with_inputs d x.inputs s)) (λ t. one-settle t))
      (λ t. by x.edge t)
    where
      by : (o : Option (List Location)) (t : State) → One (finished b d o t) (finished c d o t)
      by None t = one-well (t, record { before = observed d t; after = None })
      by (Some at) t =
          one-then (edged b d at t) (edged c d at t) (λ u. Well (u, record { before = observed d t; after = Some (observed d u) })) (λ u. Well (u, record { before = observed d t; after = Some (observed d u) }))
          (one-then (phase b d (resumes_at at) t) (phase c d (resumes_at at) t) (settle b d) (settle c d) (one-phase (resumes_at at) t) (λ u. one-settle u))
          (λ u. one-well (u, record { before = observed d t; after = Some (observed d u) }))

  pub one-shown : (xs : List Step) (s : State) → One (shown b d xs s) (shown c d xs s)
  one-shown [] s = one-well []
  one-shown (x ∷ xs) s =
      one-then (step b d x s) (step c d x s) (λ r. and_then (shown b d xs r.0) (λ more. Well (r.1 ∷ more))) (λ r. and_then (shown c d xs r.0) (λ more. Well (r.1 ∷ more)))
      (one-step x s) (λ r. one-then (shown b d xs r.0) (shown c d xs r.0) (λ more. Well (r.1 ∷ more)) (λ more. Well (r.1 ∷ more)) (one-shown xs r.0) (λ more. one-well (r.1 ∷ more)))
