-- Runs of a whole design follow from resumes of its processes. One design runs, X, with the bounds b; the other, Y, then runs too.
use Rattle.std.proofs.Common.{◌≡◌, ℕ, zero, suc, ◌+◌, ◌<◌, ◌≤◌, max, length, List, [], ◌∷◌, Bool, true, false, nat_eq, Option, Some, None, ap, refl, sym, ◌∙◌, subst, arith, if◌then◌else◌}
use Rattle.std.specs.Prelude.{filter, map}
use Rattle.scc_semantics.specs.Location.{Location}
use Rattle.scc_semantics.specs.Store.{updated}
use Rattle.scc_semantics.specs.Places.{Sort}
use Rattle.scc_semantics.specs.Design.{Process, Design, inputs, outputs}
use Rattle.scc_semantics.specs.Process.{State, Phase, Went, Well, Failed, and_then, is_levels, is_combinational, resume, resume_all, update, phase, rounds, settle}
use Rattle.scc_semantics.specs.Run.{Step, Shown, word_at, observed, set_inputs, with_inputs, restarts_by, restarts, has_edge, resumes_at, begun, edged, finished, step, shown}
use Rattle.scc_semantics.specs.Start.{IsProper}
use Rattle.scc_semantics.specs.Schedule.{starting}
use Rattle.scc_semantics.specs.Same.{Middle, is_own, is_others}
use Rattle.scc_semantics_laws.specs.Alike.{SameHeld}
use Rattle.scc_semantics_laws.proofs.Places.{Below, below-not-own, below-next, seen-below, seen-not-own, updated-proper}

-- where a process stands in a phase, with where all pointers lead
abbrev pub middle : ℕ → Phase → Middle
middle i s = record { frames = s.frames i; targets = s.held.store.targets }

-- nothing but what is process i's own
pub record Own (i : ℕ) (s t : Phase) : Type 0 where
  pub frames : (j : ℕ) → nat_eq i j ≡ false → t.frames j ≡ s.frames j
  pub targets : (l : Location) → is_own i l.root ≡ false → t.held.store.targets l ≡ s.held.store.targets l

-- nothing of the processes below i
pub record After (i : ℕ) (s t : Phase) : Type 0 where
  pub frames : (j : ℕ) → j < i → t.frames j ≡ s.frames j
  pub targets : (l : Location) → Below i l.root → t.held.store.targets l ≡ s.held.store.targets l

pub well-is : {A B : Type 0} (w : Went A) (f : A → Went B) (y : B) → and_then w f ≡ Well y → (x : A) × (w ≡ Well x) × (f x ≡ Well y)
well-is (Well x) f y e = (x, refl, e)
well-is (Failed i) f y e = cc

pub well-same : {A : Type 0} (x y : A) → Well x ≡ Well y → x ≡ y
well-same x y e = cc

index-is : (i j : ℕ) → nat_eq i j ≡ true → i ≡ j
index-is i j e = grind arith

pub index-self : (i : ℕ) → nat_eq i i ≡ true
index-self i = grind arith

-- a bound for process i alone
abbrev pub at_index : ℕ → ℕ → ℕ → ℕ
at_index i n j = if nat_eq i j then n else 0

pub at_index-is : (i n : ℕ) → at_index i n i ≡ n
at_index-is i n = ap (λ x. if x then n else 0) (index-self i)

pub at_index-within : (i n j : ℕ) → at_index i n j ≤ n
at_index-within i n j = by (nat_eq i j)
  where
    by : (x : Bool) → (if x then n else 0) ≤ n
    by true = omega arith
    by false = omega arith

own-self : (i : ℕ) (s : Phase) → Own i s s
own-self i s = record { frames = λ j h. refl; targets = λ l h. refl }

after-self : (i : ℕ) (s : Phase) → After i s s
after-self i s = record { frames = λ j h. refl; targets = λ l h. refl }

pub other-index : (i j : ℕ) → j < i → nat_eq i j ≡ false
other-index i j h = grind arith

pub other-index-up : (i j : ℕ) → i < j → nat_eq i j ≡ false
other-index-up i j h = grind arith

after-own : (i : ℕ) (s t u : Phase) → Own i s t → After (i + 1) t u → After i s u
after-own i s t u o a = record {
  frames = λ j h. a.frames j (omega arith) ∙ o.frames j (other-index i j h);
  targets = λ l h. a.targets l (below-next i l.root h) ∙ o.targets l (below-not-own i l.root h);
}

module _ (d X Y : Design) (b : ℕ → ℕ) (Allowed : ℕ → ℕ → Type 0) (Tie : ℕ → Process → Process → Middle → Middle → Type 0) where
  -- it goes well with these bounds and all greater ones
  pub record Goes (A : Type 0) (run : (ℕ → ℕ) → Went A) (R : A → Type 0) : Type 0 where
    pub bounds : ℕ → ℕ
    pub allowed : (i : ℕ) → Allowed i (bounds i)
    pub most : ℕ
    pub within : (i : ℕ) → bounds i ≤ most
    pub to : A
    pub related : R to
    pub runs : (c : ℕ → ℕ) → ((i : ℕ) → bounds i ≤ c i) → run c ≡ Well to

  -- what a resume of X has a resume of Y do
  pub record Resumed (i : ℕ) (p q : Process) (sx sy tx : Phase) (signals : Location → ℕ) : Type 0 where
    pub bound : ℕ
    pub allowed : Allowed i bound
    pub to : Phase
    pub runs : (c : ℕ → ℕ) → bound ≤ c i → resume c Y signals i q sy ≡ Well to
    pub held : SameHeld d tx to
    pub tie : Tie i p q (middle i tx) (middle i to)
    pub own : Own i sx tx
    pub own_too : Own i sy to

  pub record Lets : Type 0 where
    pub none : (i : ℕ) → Allowed i 0
    pub most : (i m n : ℕ) → Allowed i m → Allowed i n → Allowed i (max m n)
    pub resumes : (i : ℕ) (p q : Process) (sx sy : Phase) (signals : Location → ℕ) → p.sort ≡ q.sort → IsProper d signals → SameHeld d sx sy → Tie i p q (middle i sx) (middle i sy)
        → (tx : Phase) → resume b X signals i p sx ≡ Well tx → Resumed i p q sx sy tx signals
    pub stays : (i : ℕ) (p q : Process) (x y x' y' : Middle) → Tie i p q x y → x'.frames ≡ x.frames → y'.frames ≡ y.frames
        → ((l : Location) → is_others i l.root ≡ false → x'.targets l ≡ x.targets l) → ((l : Location) → is_others i l.root ≡ false → y'.targets l ≡ y.targets l) → Tie i p q x' y'

  abbrev pub Ties : ℕ → List Process → List Process → Phase → Phase → Type 0
  Ties i [] [] sx sy = Unit {0}
  Ties i (p ∷ ps) (q ∷ qs) sx sy = (p.sort ≡ q.sort) × Tie i p q (middle i sx) (middle i sy) × Ties (i + 1) ps qs sx sy
  Ties i _ _ sx sy = ⊥

  pub record Alike (i : ℕ) (ps qs : List Process) (sx sy : Phase) : Type 0 where
    pub held : SameHeld d sx sy
    pub ties : Ties i ps qs sx sy

  pub record Follows (i : ℕ) (ps qs : List Process) (sx tx sy ty : Phase) : Type 0 where
    pub alike : Alike i ps qs tx ty
    pub after : After i sx tx
    pub after_too : After i sy ty

  abbrev pub AlikeStates : State → State → Type 0
  AlikeStates s t = Alike 0 X.processes Y.processes (starting s) (starting t)

  module _ (lets : Lets) where
    -- what only own pointers and frames change keeps the ties of all later processes
    pub ties-stay : (i j : ℕ) → i < j → (ps qs : List Process) (sx tx sy ty : Phase) → Own i sx tx → Own i sy ty → Ties j ps qs sx sy → Ties j ps qs tx ty
    ties-stay i j less [] [] sx tx sy ty ox oy t = tt
    ties-stay i j less (p ∷ ps) (q ∷ qs) sx tx sy ty ox oy t = (
      t.0,
      lets.stays j p q (middle j sx) (middle j sy) (middle j tx) (middle j ty) t.1 (ox.frames j (other-index-up i j less)) (oy.frames j (other-index-up i j less))
          (λ l h. ox.targets l (seen-not-own i j l.root less h)) (λ l h. oy.targets l (seen-not-own i j l.root less h)),
      ties-stay i (j + 1) (omega arith) ps qs sx tx sy ty ox oy t.2,
    )
    ties-stay i j less [] (q ∷ qs) sx tx sy ty ox oy t = t
    ties-stay i j less (p ∷ ps) [] sx tx sy ty ox oy t = t

    tie-after : (i : ℕ) (p q : Process) (sx tx sy ty : Phase) → After (i + 1) sx tx → After (i + 1) sy ty → Tie i p q (middle i sx) (middle i sy) → Tie i p q (middle i tx) (middle i ty)
    tie-after i p q sx tx sy ty ax ay t = lets.stays i p q (middle i sx) (middle i sy) (middle i tx) (middle i ty) t (ax.frames i (omega arith)) (ay.frames i (omega arith))
        (λ l h. ax.targets l (seen-below i l.root h)) (λ l h. ay.targets l (seen-below i l.root h))

    pub goes-well : {A : Type 0} (R : A → Type 0) (x : A) → R x → Goes A (λ c. Well x) R
    goes-well R x r = record { bounds = λ i. 0; allowed = lets.none; most = 0; within = λ i. omega arith; to = x; related = r; runs = λ c h. refl }

    pub goes-then : {A B : Type 0} (R : A → Type 0) (S : B → Type 0) (f : (ℕ → ℕ) → Went A) (g : (ℕ → ℕ) → A → Went B) → Goes A f R → ((x : A) → R x → Goes B (λ c. g c x) S) → Goes B (λ c. and_then (f c) (g c)) S
    goes-then R S f g u v =
        let w = v u.to u.related in
        record {
          bounds = λ i. max (u.bounds i) (w.bounds i);
          allowed = λ i. lets.most i (u.bounds i) (w.bounds i) (u.allowed i) (w.allowed i);
          most = max u.most w.most;
          within = λ i. let a = u.within i in let b = w.within i in omega arith;
          to = w.to;
          related = w.related;
          runs = λ c h. ap (λ o. and_then o (g c)) (u.runs c (λ i. let hi = h i in omega arith)) ∙ w.runs c (λ i. let hi = h i in omega arith);
        }

    goes-map : {A : Type 0} (R S : A → Type 0) (f : (ℕ → ℕ) → Went A) → ((x : A) → R x → S x) → Goes A f R → Goes A f S
    goes-map R S f h u = record { bounds = u.bounds; allowed = u.allowed; most = u.most; within = u.within; to = u.to; related = h u.to u.related; runs = u.runs }

    allowed-at : (i n : ℕ) → Allowed i n → (j : ℕ) → Allowed j (at_index i n j)
    allowed-at i n a j = by (nat_eq i j) refl
      where
        by : (x : Bool) → nat_eq i j ≡ x → Allowed j (if x then n else 0)
        by true e = subst (λ m. Allowed m n) (index-is i j e) a
        by false e = lets.none j

    follows : (i : ℕ) (p q : Process) (ps qs : List Process) (sx ux tx sy uy ty : Phase) → p.sort ≡ q.sort → Tie i p q (middle i ux) (middle i uy) → Own i sx ux → Own i sy uy
        → Follows (i + 1) ps qs ux tx uy ty → Follows i (p ∷ ps) (q ∷ qs) sx tx sy ty
    follows i p q ps qs sx ux tx sy uy ty sort tie ox oy f = record {
      alike = record { held = f.alike.held; ties = (sort, tie-after i p q ux tx uy ty f.after f.after_too tie, f.alike.ties) };
      after = after-own i sx ux tx ox f.after;
      after_too = after-own i sy uy ty oy f.after_too;
    }

    module _ (T : Sort → Bool) where
      abbrev takes : Process → Bool
      takes p = T p.sort

      -- the one process, and then the others
      one-goes : (B : Bool) (p q : Process) (ps qs : List Process) (i : ℕ) (sx sy : Phase) (signals : Location → ℕ) → IsProper d signals → Alike i (p ∷ ps) (q ∷ qs) sx sy → (tx : Phase)
          → ((ux uy : Phase) → Alike (i + 1) ps qs ux uy → resume_all b X signals takes (i + 1) ps ux ≡ Well tx → Goes Phase (λ c. resume_all c Y signals takes (i + 1) qs uy) (Follows (i + 1) ps qs ux tx uy))
          → and_then (if B then resume b X signals i p sx else Well sx) (resume_all b X signals takes (i + 1) ps) ≡ Well tx
          → Goes Phase (λ c. and_then (if B then resume c Y signals i q sy else Well sy) (resume_all c Y signals takes (i + 1) qs)) (Follows i (p ∷ ps) (q ∷ qs) sx tx sy)
      one-goes false p q ps qs i sx sy signals proper a tx next e =
          goes-map (Follows (i + 1) ps qs sx tx sy) (Follows i (p ∷ ps) (q ∷ qs) sx tx sy) (λ c. resume_all c Y signals takes (i + 1) qs sy)
          (λ ty f. follows i p q ps qs sx sx tx sy sy ty a.ties.0 a.ties.1 (own-self i sx) (own-self i sy) f)
          (next sx sy (record { held = a.held; ties = a.ties.2 }) e)
      one-goes true p q ps qs i sx sy signals proper a tx next e =
          let w = well-is (resume b X signals i p sx) (resume_all b X signals takes (i + 1) ps) tx e in
          let r = lets.resumes i p q sx sy signals a.ties.0 proper a.held a.ties.1 w.0 w.1 in
          let ux = w.0 in
          let more : (uy : Phase) → r.to ≡ uy → Goes Phase (λ c. resume_all c Y signals takes (i + 1) qs uy) (Follows i (p ∷ ps) (q ∷ qs) sx tx sy) = λ uy same. subst (λ u. Goes Phase (λ c. resume_all c Y signals takes (i + 1) qs u) (Follows i (p ∷ ps) (q ∷ qs) sx tx sy)) same
          (goes-map (Follows (i + 1) ps qs ux tx r.to) (Follows i (p ∷ ps) (q ∷ qs) sx tx sy) (λ c. resume_all c Y signals takes (i + 1) qs r.to)
          (λ ty f. follows i p q ps qs sx ux tx sy r.to ty a.ties.0 r.tie r.own r.own_too f)
          (next ux r.to (record { held = r.held; ties = ties-stay i (i + 1) (omega arith) ps qs sx ux sy r.to r.own r.own_too a.ties.2 }) w.2)) in
          goes-then (λ uy. r.to ≡ uy) (Follows i (p ∷ ps) (q ∷ qs) sx tx sy) (λ c. resume c Y signals i q sy) (λ c. resume_all c Y signals takes (i + 1) qs)
          (record {
            bounds = at_index i r.bound;
            allowed = allowed-at i r.bound r.allowed;
            most = r.bound;
            within = at_index-within i r.bound;
            to = r.to;
            related = refl;
            runs = λ c h. r.runs c (subst (λ n. n ≤ c i) (at_index-is i r.bound) (h i));
          }) more

      resume_all-goes : (ps qs : List Process) (i : ℕ) (sx sy : Phase) (signals : Location → ℕ) → IsProper d signals → Alike i ps qs sx sy → (tx : Phase) → resume_all b X signals takes i ps sx ≡ Well tx
          → Goes Phase (λ c. resume_all c Y signals takes i qs sy) (Follows i ps qs sx tx sy)
      resume_all-goes [] [] i sx sy signals proper a tx e = goes-well (Follows i [] [] sx tx sy) sy
          (subst (λ u. Follows i [] [] sx u sy sy) (well-same sx tx e) (record { alike = a; after = after-self i sx; after_too = after-self i sy }))
      resume_all-goes (p ∷ ps) (q ∷ qs) i sx sy signals proper a tx e =
          subst (λ B. Goes Phase (λ c. and_then (if B then resume c Y signals i q sy else Well sy) (resume_all c Y signals takes (i + 1) qs)) (Follows i (p ∷ ps) (q ∷ qs) sx tx sy)) (ap T a.ties.0)
          (one-goes (T p.sort) p q ps qs i sx sy signals proper a tx (λ ux uy al g. resume_all-goes ps qs (i + 1) ux uy signals proper al tx g) e)
      resume_all-goes [] (q ∷ qs) i sx sy signals proper a tx e = absurd a.ties
      resume_all-goes (p ∷ ps) [] i sx sy signals proper a tx e = absurd a.ties

      pub updated-alike : (ps qs : List Process) (i : ℕ) (sx sy : Phase) → Alike i ps qs sx sy → Alike i ps qs (starting (update b X sx)) (starting (update b Y sy))
      updated-alike ps qs i sx sy a = record {
        held = record {
          words = λ n. updated (a.held.requests n) (a.held.words n);
          requests = refl;
          proper = updated-proper d sx.held.requests sx.held.store.words a.held.proper a.held.asks;
          asks = tt;
        };
        ties = same-ties ps qs i a.ties;
      }
        where
          same-ties : (ps qs : List Process) (i : ℕ) → Ties i ps qs sx sy → Ties i ps qs (starting (update b X sx)) (starting (update b Y sy))
          same-ties [] [] i t = t
          same-ties (p ∷ ps) (q ∷ qs) i t = (t.0, t.1, same-ties ps qs (i + 1) t.2)
          same-ties [] (q ∷ qs) i t = t
          same-ties (p ∷ ps) [] i t = t

      pub phase-goes : (sx sy : State) → AlikeStates sx sy → (tx : State) → phase b X takes sx ≡ Well tx → Goes State (λ c. phase c Y takes sy) (AlikeStates tx)
      phase-goes sx sy a tx e =
          let w = well-is (resume_all b X sx.store.words takes 0 X.processes (starting sx)) (λ t. Well (update b X t)) tx e in
          let ended : update b X w.0 ≡ tx = well-same (update b X w.0) tx w.2 in
          subst (λ g. Goes State (λ c. and_then (resume_all c Y g takes 0 Y.processes (starting sy)) (λ t. Well (update c Y t))) (AlikeStates tx)) a.held.words
          (goes-then (Follows 0 X.processes Y.processes (starting sx) w.0 (starting sy)) (AlikeStates tx) (λ c. resume_all c Y sx.store.words takes 0 Y.processes (starting sy)) (λ c t. Well (update c Y t))
          (resume_all-goes X.processes Y.processes 0 (starting sx) (starting sy) sx.store.words a.held.proper a w.0 w.1)
          (λ ty f. goes-well (AlikeStates tx) (update b Y ty) (subst (λ s. AlikeStates s (update b Y ty)) ended (updated-alike X.processes Y.processes 0 w.0 ty f.alike))))

    -- rounds of all combinational methods
    rounds-goes : (n : ℕ) (sx sy : State) → AlikeStates sx sy → (tx : State) → rounds b X n sx ≡ Well tx → Goes State (λ c. rounds c Y n sy) (AlikeStates tx)
    rounds-goes zero sx sy a tx e = goes-well (AlikeStates tx) sy (subst (λ s. AlikeStates s sy) (well-same sx tx e) a)
    rounds-goes (suc n) sx sy a tx e =
        let w = well-is (phase b X is_combinational sx) (rounds b X n) tx e in
        goes-then (AlikeStates w.0) (AlikeStates tx) (λ c. phase c Y is_combinational sy) (λ c. rounds c Y n)
        (phase-goes is_levels sx sy a w.0 w.1) (λ uy r. rounds-goes n w.0 uy r tx w.2)

    as-many : (ps qs : List Process) (i : ℕ) (sx sy : Phase) → Ties i ps qs sx sy → length (filter is_combinational ps) ≡ length (filter is_combinational qs)
    as-many [] [] i sx sy t = refl
    as-many (p ∷ ps) (q ∷ qs) i sx sy t = by (is_levels p.sort) (is_levels q.sort) (ap is_levels t.0) (as-many ps qs (i + 1) sx sy t.2)
      where
        by : (x y : Bool) → x ≡ y → length (filter is_combinational ps) ≡ length (filter is_combinational qs)
            → length (if x then p ∷ filter is_combinational ps else filter is_combinational ps) ≡ length (if y then q ∷ filter is_combinational qs else filter is_combinational qs)
        by true true e h = ap suc h
        by false false e h = h
        by true false e h = absurd cc
        by false true e h = absurd cc
    as-many [] (q ∷ qs) i sx sy t = absurd t
    as-many (p ∷ ps) [] i sx sy t = absurd t

    settle-goes : (sx sy : State) → AlikeStates sx sy → (tx : State) → settle b X sx ≡ Well tx → Goes State (λ c. settle c Y sy) (AlikeStates tx)
    settle-goes sx sy a tx e = subst (λ n. Goes State (λ c. rounds c Y (suc n) sy) (AlikeStates tx)) (as-many X.processes Y.processes 0 (starting sx) (starting sy) a.ties)
        (rounds-goes (suc (length (filter is_combinational X.processes))) sx sy a tx e)

    module _ (things : X.places.things ≡ Y.places.things) (ins : inputs X ≡ inputs Y) (outs : outputs X ≡ outputs Y) (Fits : List ℕ → Type 0)
        (given : (w : Location → ℕ) (xs : List ℕ) → Fits xs → IsProper d w → IsProper d (set_inputs (inputs X) xs w)) where
      abbrev pub AllFits : List Step → Type 0
      AllFits [] = Unit {0}
      AllFits (x ∷ xs) = Fits x.inputs × AllFits xs

      pub inputs-alike : (xs : List ℕ) (sx sy : State) → Fits xs → AlikeStates sx sy → AlikeStates (with_inputs X xs sx) (with_inputs Y xs sy)
      inputs-alike xs sx sy fit a = record {
        held = record {
          words = λ n. set_inputs (ins n) xs (a.held.words n);
          requests = refl;
          proper = given sx.store.words xs fit a.held.proper;
          asks = tt;
        };
        ties = same-ties X.processes Y.processes 0 a.ties;
      }
        where
          same-ties : (ps qs : List Process) (i : ℕ) → Ties i ps qs (starting sx) (starting sy) → Ties i ps qs (starting (with_inputs X xs sx)) (starting (with_inputs Y xs sy))
          same-ties [] [] i t = t
          same-ties (p ∷ ps) (q ∷ qs) i t = (t.0, t.1, same-ties ps qs (i + 1) t.2)
          same-ties [] (q ∷ qs) i t = t
          same-ties (p ∷ ps) [] i t = t

      pub observed-same : (sx sy : State) → AlikeStates sx sy → observed X sx ≡ observed Y sy
      observed-same sx sy a = λ n. record {
        outputs = map (λ l. word_at (things n l) (a.held.words n) l) (outs n);
        words = λ l. word_at (things n l) (a.held.words n) l;
      }

      begun-goes : (xs : List ℕ) (sx sy : State) → Fits xs → AlikeStates sx sy → (tx : State) → begun b X xs sx ≡ Well tx → Goes State (λ c. begun c Y xs sy) (AlikeStates tx)
      begun-goes xs sx sy fit a tx e =
          let gx = with_inputs X xs sx in
          let gy = with_inputs Y xs sy in
          let al = inputs-alike xs sx sy fit a in
          let w = well-is (phase b X (restarts gx) gx) (settle b X) tx e in
          subst (λ g. Goes State (λ c. and_then (phase c Y (λ p. restarts_by g p.sort) gy) (settle c Y)) (AlikeStates tx)) al.held.words
          (goes-then (AlikeStates w.0) (AlikeStates tx) (λ c. phase c Y (λ p. restarts_by gx.store.words p.sort) gy) (λ c. settle c Y)
          (phase-goes (restarts_by gx.store.words) gx gy al w.0 w.1) (λ uy r. settle-goes w.0 uy r tx w.2))

      edged-goes : (at : List Location) (sx sy : State) → AlikeStates sx sy → (tx : State) → edged b X at sx ≡ Well tx → Goes State (λ c. edged c Y at sy) (AlikeStates tx)
      edged-goes at sx sy a tx e =
          let w = well-is (phase b X (resumes_at at) sx) (settle b X) tx e in
          goes-then (AlikeStates w.0) (AlikeStates tx) (λ c. phase c Y (resumes_at at) sy) (λ c. settle c Y)
          (phase-goes (has_edge at) sx sy a w.0 w.1) (λ uy r. settle-goes w.0 uy r tx w.2)

      -- the same is shown, and the states are alike
      abbrev Shows : State × Shown → State × Shown → Type 0
      Shows x y = AlikeStates x.0 y.0 × (x.1 ≡ y.1)

      finished-goes : (edge : Option (List Location)) (sx sy : State) → AlikeStates sx sy → (tx : State × Shown) → finished b X edge sx ≡ Well tx → Goes (State × Shown) (λ c. finished c Y edge sy) (Shows tx)
      finished-goes None sx sy a tx e =
          goes-well (Shows tx) (sy, record { before = observed Y sy; after = None }) (subst (λ r. Shows r (sy, record { before = observed Y sy; after = None }))
          (well-same (sx, record { before = observed X sx; after = None }) tx e) (a, λ n. record { before = observed-same sx sy a n; after = None }))
      finished-goes (Some at) sx sy a tx e =
          let end : Design → State → State → State × Shown = λ D s t. (t, record { before = observed D s; after = Some (observed D t) }) in
          let w = well-is (edged b X at sx) (λ t. Well (end X sx t)) tx e in
          goes-then (AlikeStates w.0) (Shows tx) (λ c. edged c Y at sy) (λ c t. Well (end Y sy t)) (edged-goes at sx sy a w.0 w.1)
          (λ uy r. goes-well (Shows tx) (end Y sy uy) (subst (λ r. Shows r (end Y sy uy)) (well-same (end X sx w.0) tx w.2)
          (r, λ n. record { before = observed-same sx sy a n; after = Some (observed-same w.0 uy r n) })))

      step-goes : (x : Step) (sx sy : State) → Fits x.inputs → AlikeStates sx sy → (tx : State × Shown) → step b X x sx ≡ Well tx → Goes (State × Shown) (λ c. step c Y x sy) (Shows tx)
      step-goes x sx sy fit a tx e =
          let w = well-is (begun b X x.inputs sx) (finished b X x.edge) tx e in
          goes-then (AlikeStates w.0) (Shows tx) (λ c. begun c Y x.inputs sy) (λ c. finished c Y x.edge) (begun-goes x.inputs sx sy fit a w.0 w.1) (λ uy r. finished-goes x.edge w.0 uy r tx w.2)

      pub shown-goes : (xs : List Step) (sx sy : State) → AllFits xs → AlikeStates sx sy → (os : List Shown) → shown b X xs sx ≡ Well os → Goes (List Shown) (λ c. shown c Y xs sy) (λ ps. os ≡ ps)
      shown-goes [] sx sy fit a os e = goes-well (λ ps. os ≡ ps) [] (sym (well-same [] os e))
      shown-goes (x ∷ xs) sx sy fit a os e =
          let w = well-is (step b X x sx) (λ r. and_then (shown b X xs r.0) (λ more. Well (r.1 ∷ more))) os e in
          let v = well-is (shown b X xs w.0.0) (λ more. Well (w.0.1 ∷ more)) os w.2 in
          goes-then (Shows w.0) (λ ps. os ≡ ps) (λ c. step c Y x sy) (λ c r. and_then (shown c Y xs r.0) (λ more. Well (r.1 ∷ more))) (step-goes x sx sy fit.0 a w.0 w.1)
          (λ uy r. goes-then (λ ps. v.0 ≡ ps) (λ ps. os ≡ ps) (λ c. shown c Y xs uy.0) (λ c more. Well (uy.1 ∷ more)) (shown-goes xs w.0.0 uy.0 fit.1 r.0 v.0 v.1)
          (λ ps same. goes-well (λ ps. os ≡ ps) (uy.1 ∷ ps) (sym (well-same (w.0.1 ∷ v.0) os v.2) ∙ (λ n. r.1 n ∷ same n))))
