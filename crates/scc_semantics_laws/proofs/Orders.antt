-- What means the same as a steady design that shows the same in any order shows the same in any order.
use Rattle.std.proofs.Common.{◌≡◌, ℕ, zero, suc, ◌+◌, ◌<◌, ◌≤◌, max, length, List, [], ◌∷◌, Bool, true, false, ◌&&◌, Option, Some, None, ap, refl, sym, ◌∙◌, subst, arith, le_trans, if◌then◌else◌}
use Rattle.std.specs.Prelude.{filter, option_map, unwrap_or, slice_get}
use Rattle.scc_semantics.specs.Location.{Location, Root, Top, Local, Answer}
use Rattle.scc_semantics.specs.Places.{Sort}
use Rattle.scc_semantics.specs.Design.{Process, Design, inputs}
use Rattle.scc_semantics.specs.Process.{State, Phase, Went, Well, and_then, is_levels, resume, update}
use Rattle.scc_semantics.specs.Run.{Step, Shown, AllFit, FitSteps, observed, with_inputs, restarts_by, has_edge}
use Rattle.scc_semantics.specs.Start.{IsProper}
use Rattle.scc_semantics.specs.Schedule.{Running, process_at, senses_of, has_changed, must_run, is_method, among, Covers, starting, run_list, round, found_after, Settles, last, goes, EachOnce, Begins, Edged, Scheduled, done, held as holding, edged, fresh, AnyOrder}
use Rattle.scc_semantics.specs.Same.{is_own, is_others, SameDesign}
use Rattle.scc_semantics.specs.Steady.{IsSteady}
use Rattle.scc_semantics_laws.proofs.Sim.{Own, Ties, Alike, AlikeStates, Goes, middle, at_index, at_index-is, at_index-within, other-index, ties-stay, goes-well, goes-then, updated-alike, inputs-alike, observed-same, well-is, well-same}
use Rattle.scc_semantics_laws.proofs.Step.{Tie, tie-stays}
use Rattle.scc_semantics_laws.proofs.Runs.{fast-resume, fast-lets, same-inputs, same-outputs, given, held, ties, fast-runs}
use Rattle.scc_semantics_laws.proofs.Carried.{starting_with, start-too, steps-fit}

seen-not-own-up : (i j : ℕ) (r : Root) → j < i → is_others j r ≡ false → is_own i r ≡ false
seen-not-own-up i j Top l h = refl
seen-not-own-up i j (Local n calls m) l h = grind arith
seen-not-own-up i j (Answer n calls) l h = grind arith

some-is : {A : Type 0} {x y : A} → Some x ≡ Some y → x ≡ y
some-is e = cc

abbrev pub Free : ℕ → ℕ → Type 0
Free j n = Unit {0}

module _ (k : ℕ) (d e : Design) (s : SameDesign k d e) (steady : IsSteady e) (b : ℕ → ℕ) where
  abbrev TiesAt : ℕ → List Process → List Process → Phase → Phase → Type 0
  TiesAt = Ties d d e b Free (Tie k d e)

  abbrev AlikeAt : Phase → Phase → Type 0
  AlikeAt = Alike d d e b Free (Tie k d e) 0 d.processes e.processes

  abbrev Same : State → State → Type 0
  Same = AlikeStates d d e b Free (Tie k d e)

  abbrev GoesTo : (A : Type 0) → ((ℕ → ℕ) → Went A) → (A → Type 0) → Type 0
  GoesTo = Goes d d e b Free (Tie k d e)

  -- two processes at one number, tied
  abbrev Match : ℕ → Phase → Phase → Option Process → Option Process → Type 0
  Match m sx sy None None = Unit {0}
  Match m sx sy (Some p) (Some q) = (p.sort ≡ q.sort) × Tie k d e m p q (middle m sx) (middle m sy)
  Match m sx sy _ _ = ⊥

  look : (m n j : ℕ) → m ≡ j + n → (ps qs : List Process) (sx sy : Phase) → TiesAt j ps qs sx sy → Match m sx sy (slice_get ps n) (slice_get qs n)
  look m n j eq [] [] sx sy t = tt
  look m zero j eq (p ∷ ps) (q ∷ qs) sx sy t = let same : j ≡ m = omega arith in (t.0, subst (λ x. Tie k d e x p q (middle x sx) (middle x sy)) same t.1)
  look m (suc n) j eq (p ∷ ps) (q ∷ qs) sx sy t = look m n (j + 1) (omega arith) ps qs sx sy t.2
  look m n j eq [] (q ∷ qs) sx sy t = absurd t
  look m n j eq (p ∷ ps) [] sx sy t = absurd t

  -- the tie of one process made anew
  put : (m n j : ℕ) → m ≡ j + n → (ps qs : List Process) (sx sy tx ty : Phase) → TiesAt j ps qs sx sy → Own m sx tx → Own m sy ty → Match m tx ty (slice_get ps n) (slice_get qs n) → TiesAt j ps qs tx ty
  put m n j eq [] [] sx sy tx ty t ox oy u = tt
  put m zero j eq (p ∷ ps) (q ∷ qs) sx sy tx ty t ox oy u =
      let same : m ≡ j = omega arith in (
        t.0,
        subst (λ x. Tie k d e x p q (middle x tx) (middle x ty)) same u.1,
        ties-stay d d e b Free (Tie k d e) (fast-lets k d e b) m (j + 1) (omega arith) ps qs sx tx sy ty ox oy t.2,
      )
  put m (suc n) j eq (p ∷ ps) (q ∷ qs) sx sy tx ty t ox oy u =
      let less : j < m = omega arith in (
        t.0,
        tie-stays k d e j p q (middle j sx) (middle j sy) (middle j tx) (middle j ty) t.1 (ox.frames j (other-index m j less)) (oy.frames j (other-index m j less))
            (λ l h. ox.targets l (seen-not-own-up m j l.root less h)),
        put m n (j + 1) (omega arith) ps qs sx sy tx ty t.2 ox oy u,
      )
  put m n j eq [] (q ∷ qs) sx sy tx ty t ox oy u = t
  put m n j eq (p ∷ ps) [] sx sy tx ty t ox oy u = t

  one-by : (i : ℕ) (op oq : Option Process) (signals : Location → ℕ) (sx sy : Phase) → IsProper d signals → AlikeAt sx sy → Match i sx sy op oq
      → ((tx ty : Phase) → Own i sx tx → Own i sy ty → Match i tx ty op oq → TiesAt 0 d.processes e.processes tx ty)
      → (tx : Phase) → unwrap_or (option_map (λ p. resume b d signals i p sx) op) (Well sx) ≡ Well tx
      → GoesTo Phase (λ c. unwrap_or (option_map (λ q. resume c e signals i q sy) oq) (Well sy)) (AlikeAt tx)
  one-by i None None signals sx sy proper a m anew tx eq =
      goes-well d d e b Free (Tie k d e) (fast-lets k d e b) (AlikeAt tx) sy (subst (λ x. AlikeAt x sy) (well-same sx tx eq) a)
  one-by i (Some p) (Some q) signals sx sy proper a m anew tx eq =
      let r = fast-resume k d e i p q sx sy signals m.0 a.held m.1 proper b tx eq in
      record {
        bounds = at_index i r.bound;
        allowed = λ j. tt;
        most = r.bound;
        within = at_index-within i r.bound;
        to = r.to;
        related = record { held = r.held; ties = anew tx r.to r.own r.own_too (m.0, r.tie) };
        runs = λ c h. r.runs c (subst (λ n. n ≤ c i) (at_index-is i r.bound) (h i));
      }
  one-by i None (Some q) signals sx sy proper a m anew tx eq = absurd m
  one-by i (Some p) None signals sx sy proper a m anew tx eq = absurd m

  list-goes : (runs : List ℕ) (signals : Location → ℕ) (sx sy : Phase) → IsProper d signals → AlikeAt sx sy → (tx : Phase) → run_list b d signals runs sx ≡ Well tx → GoesTo Phase (λ c. run_list c e signals runs sy) (AlikeAt tx)
  list-goes [] signals sx sy proper a tx eq = goes-well d d e b Free (Tie k d e) (fast-lets k d e b) (AlikeAt tx) sy (subst (λ x. AlikeAt x sy) (well-same sx tx eq) a)
  list-goes (i ∷ is) signals sx sy proper a tx eq =
      let w = well-is (unwrap_or (option_map (λ p. resume b d signals i p sx) (process_at d i)) (Well sx)) (run_list b d signals is) tx eq in
      goes-then d d e b Free (Tie k d e) (fast-lets k d e b) (AlikeAt w.0) (AlikeAt tx) (λ c. unwrap_or (option_map (λ q. resume c e signals i q sy) (process_at e i)) (Well sy)) (λ c. run_list c e signals is)
      (one-by i (process_at d i) (process_at e i) signals sx sy proper a (look i i 0 (omega arith) d.processes e.processes sx sy a.ties)
      (λ ux uy ox oy m. put i i 0 (omega arith) d.processes e.processes sx sy ux uy a.ties ox oy m) w.0 w.1)
      (λ uy al. list-goes is signals w.0 uy proper al tx w.2)

  pub round-goes : (runs : List ℕ) (sx sy : State) → Same sx sy → (tx : State) → round b d runs sx ≡ Well tx → GoesTo State (λ c. round c e runs sy) (Same tx)
  round-goes runs sx sy a tx eq =
      let w = well-is (run_list b d sx.store.words runs (starting sx)) (λ t. Well (update b d t)) tx eq in
      let ended : update b d w.0 ≡ tx = well-same (update b d w.0) tx w.2 in
      subst (λ g. GoesTo State (λ c. and_then (run_list c e g runs (starting sy)) (λ t. Well (update c e t))) (Same tx)) a.held.words
      (goes-then d d e b Free (Tie k d e) (fast-lets k d e b) (AlikeAt w.0) (Same tx) (λ c. run_list c e sx.store.words runs (starting sy)) (λ c t. Well (update c e t))
      (list-goes runs sx.store.words (starting sx) (starting sy) a.held.proper a w.0 w.1)
      (λ ty al. goes-well d d e b Free (Tie k d e) (fast-lets k d e b) (Same tx) (update b e ty) (subst (λ x. Same x (update b e ty)) ended
      (updated-alike d d e b Free (Tie k d e) (fast-lets k d e b) is_levels d.processes e.processes 0 w.0 ty al))))

  -- running alike
  pub record AlikeR (r t : Running) : Type 0 where
    pub states : Same r.state t.state
    pub found : (i : ℕ) → r.found i ≡ t.found i

  matched : (i : ℕ) (r t : Running) → AlikeR r t → Match i (starting r.state) (starting t.state) (process_at d i) (process_at e i)
  matched i r t a = look i i 0 (omega arith) d.processes e.processes (starting r.state) (starting t.state) a.states.ties

  must-same : (i : ℕ) (r t : Running) → AlikeR r t → must_run d r i ≡ must_run e t i
  must-same i r t a = by (process_at d i) (process_at e i) (matched i r t a)
    where
      by : (op oq : Option Process) → Match i (starting r.state) (starting t.state) op oq
          → unwrap_or (option_map (λ p. is_levels p.sort && has_changed (r.found i) r.state.store.words (senses_of p.sort)) op) false
          ≡ unwrap_or (option_map (λ p. is_levels p.sort && has_changed (t.found i) t.state.store.words (senses_of p.sort)) oq) false
      by None None m = refl
      by (Some p) (Some q) m = λ z. is_levels (m.0 z) && has_changed (a.found i z) (a.states.held.words z) (senses_of (m.0 z))
      by None (Some q) m = absurd m
      by (Some p) None m = absurd m

  method-same : (i : ℕ) (r t : Running) → AlikeR r t → is_method d i ≡ is_method e i
  method-same i r t a = by (process_at d i) (process_at e i) (matched i r t a)
    where
      by : (op oq : Option Process) → Match i (starting r.state) (starting t.state) op oq → unwrap_or (option_map (λ p. is_levels p.sort) op) false ≡ unwrap_or (option_map (λ p. is_levels p.sort) oq) false
      by None None m = refl
      by (Some p) (Some q) m = ap is_levels m.0
      by None (Some q) m = absurd m
      by (Some p) None m = absurd m

  pub covers-too : (r t : Running) (runs : List ℕ) → AlikeR r t → Covers d r runs → Covers e t runs
  covers-too r t runs a c = record { methods = λ i h. sym (method-same i r t a) ∙ c.methods i h; all = λ i h. c.all i (must-same i r t a ∙ h) }

  pub found-same : (runs : List ℕ) (r t : Running) → AlikeR r t → (i : ℕ) → found_after b d runs r i ≡ found_after b e runs t i
  found-same runs r t a i = λ z. if among i runs then Some (a.states.held.words z) else a.found i z

  -- what stays so with greater bounds
  pub record Comes (t : Running) (R : (ℕ → ℕ) → Running → Type 0) : Type 0 where
    pub most : ℕ
    pub to : Running
    pub alike : AlikeR t to
    pub runs : (c : ℕ → ℕ) → ((i : ℕ) → most ≤ c i) → R c to

  settles-too : {n : ℕ} {r t : Running} → Settles b d n r t → (u : Running) → AlikeR r u → Comes t (λ c v. Settles c e n u v)
  settles-too (last runs r x cov rd quiet) u a =
      let g = round-goes runs r.state u.state a.states x rd in
      record {
        most = g.most;
        to = record { state = g.to; found = found_after b e runs u };
        alike = record { states = g.related; found = found-same runs r u a };
        runs = λ c h. last runs u g.to (covers-too r u runs a cov) (g.runs c (λ i. le_trans (g.within i) (h i)))
            (λ l kd th. ap (λ w. w l) (sym g.related.held.words) ∙ quiet l kd (s.things l ∙ th) ∙ ap (λ w. w l) a.states.held.words);
      }
  settles-too (goes {n = n} {r = r} {t = t} runs x cov rd rest) u a =
      let g = round-goes runs r.state u.state a.states x rd in
      let next : Running = record { state = g.to; found = found_after b e runs u } in
      let more = settles-too rest next (record { states = g.related; found = found-same runs r u a }) in
      record {
        most = max g.most more.most;
        to = more.to;
        alike = more.alike;
        runs = λ c h. goes runs g.to (covers-too r u runs a cov) (g.runs c (λ i. let hi = h i in let wi = g.within i in omega arith)) (more.runs c (λ i. let hi = h i in omega arith));
      }

  pub as-many : (T : Sort → Bool) (ps qs : List Process) (i : ℕ) (sx sy : Phase) → TiesAt i ps qs sx sy → length (filter (λ p. T p.sort) ps) ≡ length (filter (λ p. T p.sort) qs)
  as-many T [] [] i sx sy t = refl
  as-many T (p ∷ ps) (q ∷ qs) i sx sy t = by (T p.sort) (T q.sort) (ap T t.0) (as-many T ps qs (i + 1) sx sy t.2)
    where
      by : (x y : Bool) → x ≡ y → length (filter (λ p. T p.sort) ps) ≡ length (filter (λ p. T p.sort) qs)
          → length (if x then p ∷ filter (λ p. T p.sort) ps else filter (λ p. T p.sort) ps) ≡ length (if y then q ∷ filter (λ p. T p.sort) qs else filter (λ p. T p.sort) qs)
      by true true eq h = ap suc h
      by false false eq h = h
      by true false eq h = absurd cc
      by false true eq h = absurd cc
  as-many T [] (q ∷ qs) i sx sy t = absurd t
  as-many T (p ∷ ps) [] i sx sy t = absurd t

  pub once-too : (T : Sort → Bool) (order : List ℕ) (c : ℕ → ℕ) (sx sy : Phase) → TiesAt 0 d.processes e.processes sx sy → EachOnce b d (λ p. T p.sort) order → EachOnce c e (λ p. T p.sort) order
  once-too T order c sx sy t o = record {
    all = λ i q at test. all-by i (process_at d i) (process_at e i) (look i i 0 (omega arith) d.processes e.processes sx sy t) (o.all i) q at test;
    only = λ i a. only-by i (process_at d i) (process_at e i) (look i i 0 (omega arith) d.processes e.processes sx sy t) (o.only i a);
    once = o.once ∙ as-many T d.processes e.processes 0 sx sy t;
  }
    where
      all-by : (i : ℕ) (op oq : Option Process) → Match i sx sy op oq → ((p : Process) → op ≡ Some p → T p.sort ≡ true → among i order ≡ true) → (q : Process) → oq ≡ Some q → T q.sort ≡ true → among i order ≡ true
      all-by i (Some p) (Some q) m f x at test = f p refl (ap T m.0 ∙ ap (λ y. T y.sort) (some-is at) ∙ test)
      all-by i None None m f x at test = absurd cc
      all-by i None (Some q) m f x at test = absurd m
      all-by i (Some p) None m f x at test = absurd m

      only-by : (i : ℕ) (op oq : Option Process) → Match i sx sy op oq → ((p : Process) × (op ≡ Some p) × (T p.sort ≡ true)) → (q : Process) × (oq ≡ Some q) × (T q.sort ≡ true)
      only-by i (Some p) (Some q) m x = (q, refl, sym (ap T m.0) ∙ ap (λ y. T y.sort) (some-is x.1) ∙ x.2)
      only-by i None None m x = let at = x.1 in absurd cc
      only-by i None (Some q) m x = absurd m
      only-by i (Some p) None m x = absurd m

  begins-too : (xs : List ℕ) (r t u : Running) → AllFit d (inputs d) xs → AlikeR r u → Begins b d xs r t → Comes t (λ c v. Begins c e xs u v)
  begins-too xs r t u fit a g =
      let gx = with_inputs d xs r.state in
      let gy = with_inputs e xs u.state in
      let al = inputs-alike d d e b Free (Tie k d e) (fast-lets k d e b) (λ z l. s.things l z) (same-inputs k d e s) (same-outputs k d e s) (AllFit d (inputs d)) (given k d e s steady) xs r.state u.state fit a.states in
      let f = round-goes g.order gx gy al g.state g.runs in
      let more = settles-too g.settles (record { state = f.to; found = u.found }) (record { states = f.related; found = a.found }) in
      record {
        most = max f.most more.most;
        to = more.to;
        alike = more.alike;
        runs = λ c h. record {
          order = g.order;
          once = subst (λ w. EachOnce c e (λ p. restarts_by w p.sort) g.order) al.held.words (once-too (restarts_by gx.store.words) g.order c (starting gx) (starting gy) al.ties g.once);
          state = f.to;
          runs = f.runs c (λ i. let hi = h i in let wi = f.within i in omega arith);
          rounds = g.rounds;
          settles = more.runs c (λ i. let hi = h i in omega arith);
        };
      }

  edged-too : (at : List Location) (r t u : Running) → AlikeR r u → Edged b d at r t → Comes t (λ c v. Edged c e at u v)
  edged-too at r t u a g =
      let f = round-goes g.order r.state u.state a.states g.state g.runs in
      let more = settles-too g.settles (record { state = f.to; found = u.found }) (record { states = f.related; found = a.found }) in
      record {
        most = max f.most more.most;
        to = more.to;
        alike = more.alike;
        runs = λ c h. record {
          order = g.order;
          once = once-too (has_edge at) g.order c (starting r.state) (starting u.state) a.states.ties g.once;
          state = f.to;
          runs = f.runs c (λ i. let hi = h i in let wi = f.within i in omega arith);
          rounds = g.rounds;
          settles = more.runs c (λ i. let hi = h i in omega arith);
        };
      }

  observed-too : (r t : Running) → AlikeR r t → observed d r.state ≡ observed e t.state
  observed-too r t a = observed-same d d e b Free (Tie k d e) (fast-lets k d e b) (λ z l. s.things l z) (same-inputs k d e s) (same-outputs k d e s) (AllFit d (inputs d)) (given k d e s steady) r.state t.state a.states

  scheduled-too : {r : Running} {xs : List Step} {os : List Shown} → Scheduled b d r xs os → FitSteps d xs → (u : Running) → AlikeR r u → (most : ℕ) × ((c : ℕ → ℕ) → ((i : ℕ) → most ≤ c i) → Scheduled c e u xs os)
  scheduled-too (done r) fit u a = (0, λ c h. done u)
  scheduled-too (holding {t = t} {xs = xs} {os = os} words r g rest) fit u a =
      let f = begins-too words r t u fit.0.0 a g in
      let more = scheduled-too rest fit.1 f.to f.alike in (
        max f.most more.0,
        λ c h. subst (λ o. Scheduled c e u (record { inputs = words; edge = None } ∷ xs) (record { before = o; after = None } ∷ os)) (sym (observed-too t f.to f.alike))
            (holding words u (f.runs c (λ i. let hi = h i in omega arith)) (more.1 c (λ i. let hi = h i in omega arith))),
      )
  scheduled-too (edged {t = t} {u = v} {xs = xs} {os = os} words at r g y rest) fit u a =
      let f = begins-too words r t u fit.0.0 a g in
      let z = edged-too at t v f.to f.alike y in
      let more = scheduled-too rest fit.1 z.to z.alike in (
        max f.most (max z.most more.0),
        λ c h. subst (λ o. Scheduled c e u (record { inputs = words; edge = Some at } ∷ xs) (o ∷ os))
            (λ i. record { before = sym (observed-too t f.to f.alike) i; after = Some (sym (observed-too v z.to z.alike) i) })
            (edged words at u (f.runs c (λ i. let hi = h i in omega arith)) (z.runs c (λ i. let hi = h i in omega arith)) (more.1 c (λ i. let hi = h i in omega arith))),
      )

pub any-order-too : (k : ℕ) (d e : Design) → SameDesign k d e → IsSteady e → (registers : Location → Bool) → AnyOrder registers e → AnyOrder registers d
any-order-too k d e s steady registers any start is xs fit os ps bound shows scheduled =
    let t = starting_with e start in
    let is_too = start-too k d e s start is in
    let b : ℕ → ℕ = λ i. bound in
    let more = scheduled-too k d e s steady b scheduled fit (fresh t) (record {
      states = record { held = held k d e s steady start t is is_too (λ l. refl); ties = ties k d e s steady start t is is_too (λ l. refl) b };
      found = λ i. refl;
    }) in
    any t is_too xs (steps-fit k d e s xs fit) os ps more.0 (fast-runs k d e s steady start t is is_too (λ l. refl) xs fit (λ i. shows.0) os shows.1) (more.1 (λ i. more.0) (λ i. omega arith))
