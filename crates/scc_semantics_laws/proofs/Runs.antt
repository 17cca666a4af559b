-- Designs that mean the same run alike, where one of them is steady.
use Rattle.std.proofs.Common.{◌≡◌, ◌⊎◌, inl, inr, ℕ, ◌+◌, ◌*◌, ◌≤◌, List, [], ◌∷◌, append-nil, Bool, true, false, not, ◌||◌, Option, Some, None, ap, refl, sym, ◌∙◌, subst, arith, if◌then◌else◌}
use Rattle.std.specs.Prelude.{filter}
use Rattle.std.specs.List.{list_any}
use Rattle.scc_semantics.specs.Location.{Location, same}
use Rattle.scc_semantics.specs.Store.{Request}
use Rattle.scc_semantics.specs.Design.{Process, Design, has_clock, is_input, locations, inputs, outputs}
use Rattle.scc_semantics.specs.Machine.{Frames, Outcome, run}
use Rattle.scc_semantics.specs.Process.{State, Phase, Went, Well, Failed, first_frames, resumed_frames, left_by, resume}
use Rattle.scc_semantics.specs.Run.{Step, Shown, Shows, shown, FitsThing, AllFit, FitSteps, set_inputs}
use Rattle.scc_semantics.specs.Start.{IsProper, HoldsConstant, AllFirst, IsStart}
use Rattle.scc_semantics.specs.Schedule.{starting}
use Rattle.scc_semantics.specs.Same.{Turn, Seen, is_others, seen_of, leading, left_in, resumed, MeansTheSame, at_first, AllTheSame, SameDesign}
use Rattle.scc_semantics.specs.Steady.{plain_body, IsProperAt, AllProperRequests, AllProperSeen, IsSteadyProcess, AllSteady, IsSteady}
use Rattle.scc_semantics_laws.specs.Alike.{SameHeld}
use Rattle.scc_semantics_laws.specs.Words.{PlainFrames, aimed, all_aimed, all_behind}
use Rattle.scc_semantics_laws.proofs.Before.{run-behind}
use Rattle.scc_semantics_laws.proofs.Blind.{run-blind}
use Rattle.scc_semantics_laws.proofs.Order.{all-proper-too}
use Rattle.scc_semantics_laws.proofs.Places.{same-self, proper-at, proper-by, AllFree, inputs-proper}
use Rattle.scc_semantics_laws.proofs.Sim.{Own, Resumed, Lets, Ties, AllFits, middle, well-same, shown-goes}
use Rattle.scc_semantics_laws.proofs.Step.{AlikeIn, starts_over, starts, finds, starts-from, later-left, behind-over, aimed-over, over-seen, well-seen, well-seen-aimed, Tie, tie-stays, goes-slow, goes-fast, steady-now, steady-next, Both, joins}

pub flipped : (d : Design) (sx sy : Phase) → SameHeld d sx sy → SameHeld d sy sx
flipped d sx sy h = record { words = sym h.words; requests = sym h.requests; proper = subst (IsProper d) h.words h.proper; asks = subst (AllProperRequests d) h.requests h.asks }

plain-starts : (b : Bool) (i : ℕ) (q : Process) (f : Frames) → plain_body q.body ≡ true → PlainFrames f → PlainFrames (if b then first_frames i q else f)
plain-starts true i q f body plain = (body, tt)
plain-starts false i q f body plain = plain

module _ (k : ℕ) (d e : Design) (i : ℕ) (p q : Process) (sx sy : Phase) (signals : Location → ℕ) (sort : p.sort ≡ q.sort) (held : SameHeld d sx sy) (tie : Tie k d e i p q (middle i sx) (middle i sy))
    (proper : IsProper d signals) where
  abbrev turn : Turn
  turn = record { restarts = starts_over signals p.sort; words = sx.held.store.words; signals = signals; others = sx.held.store.targets }

  abbrev rs : List Request
  rs = sx.held.requests

  found : (l : Location) → sx.held.store.targets l ≡ leading i turn tie.here l
  found l = by (is_others i l.root) refl
    where
      by : (b : Bool) → is_others i l.root ≡ b → sx.held.store.targets l ≡ (if b then sx.held.store.targets l else tie.here.targets l)
      by true g = refl
      by false g = tie.targets l g

  -- a resume in the whole design is one of the process by itself
  actual : (n : ℕ) → run d.places d.functions signals n (resumed_frames signals i p p.sort sx.frames) sx.held ≡ all_behind rs (resumed d i p n turn tie.here)
  actual n = (λ z. run d.places d.functions signals n (starts-from signals i p p.sort sx.frames tie.here.frames tie.frames z)
      (record { store = record { words = sx.held.store.words; targets = λ l. found l z }; requests = sym (append-nil rs) z }))
      ∙ run-behind d.places d.functions signals rs n (starts i p turn tie.here) (finds i turn tie.here)

  plain : PlainFrames (starts i q turn tie.there)
  plain = plain-starts (starts_over signals p.sort) i q tie.there.frames tie.body tie.plain

  actual_too : (n : ℕ) → run e.places e.functions signals n (resumed_frames signals i q q.sort sy.frames) sy.held ≡ all_behind rs (all_aimed sy.held.store.targets (resumed e i q n turn tie.there))
  actual_too n =
      let frames = starts-from signals i q q.sort sy.frames tie.there.frames tie.frames_too ∙ ap (λ s. if starts_over signals s then first_frames i q else tie.there.frames) (sym sort) in
      let requests = sym held.requests ∙ sym (append-nil rs) in
      (λ z. run e.places e.functions signals n (frames z) (record { store = record { words = sym held.words z; targets = sy.held.store.targets }; requests = requests z }))
      ∙ run-behind e.places e.functions signals rs n (starts i q turn tie.there) (aimed sy.held.store.targets (finds i turn tie.there))
      ∙ ap (all_behind rs) (run-blind e.places e.functions signals sy.held.store.targets n (starts i q turn tie.there) (finds i turn tie.there) plain).same

  abbrev rd : ℕ → Outcome
  rd n = resumed d i p n turn tie.here

  abbrev re : ℕ → Outcome
  re n = resumed e i q n turn tie.there

  abbrev ld : Location → Option Location
  ld = leading i turn tie.here

  abbrev le : Location → Option Location
  le = leading i turn tie.there

  abbrev went_x : ℕ → Went Phase
  went_x n = left_by p.sort i sx.frames (all_behind rs (rd n))

  abbrev went_y : ℕ → Went Phase
  went_y n = left_by p.sort i sy.frames (all_behind rs (all_aimed sy.held.store.targets (re n)))

  abbrev Together : ℕ → ℕ → Type 0
  Together n c = Both k d e i p q sx sy (went_x n) (went_y c)

  -- both go well, or both fail
  ends : (n c : ℕ) (o : Seen) → seen_of i ld (rd n) ≡ Some o → seen_of i le (re c) ≡ Some o → AlikeIn k d e i p q (left_in (rd n) tie.here) (left_in (re c) tie.there)
      → Together n c ⊎ ((went_x n ≡ Failed i) × (went_y c ≡ Failed i))
  ends n c o sd se alike =
      let blind = run-blind e.places e.functions signals le c (starts i q turn tie.there) (finds i turn tie.there) plain in
      joins k d e i p q sx sy sort held tie.body ld le found tie.here tie.there (rd n) (re c) o sd se blind.same blind.plain
      (steady-now k d e i p q tie.here tie.there turn held.proper proper tie.steady c o se) alike (steady-next k d e i p q tie.here tie.there turn held.proper proper tie.steady c o se)

  never : (x : Phase) → Failed i ≡ Well x → ⊥
  never x h = cc

  both-x : (n c : ℕ) (tx : Phase) → went_x n ≡ Well tx → Together n c ⊎ ((went_x n ≡ Failed i) × (went_y c ≡ Failed i)) → Together n c
  both-x n c tx w (inl b) = b
  both-x n c tx w (inr f) = absurd (never tx (sym f.0 ∙ w))

  both-y : (n c : ℕ) (ty : Phase) → went_y c ≡ Well ty → Together n c ⊎ ((went_x n ≡ Failed i) × (went_y c ≡ Failed i)) → Together n c
  both-y n c ty w (inl b) = b
  both-y n c ty w (inr f) = absurd (never ty (sym f.1 ∙ w))

  runs_x : (n : ℕ) (o : Seen) → seen_of i ld (rd n) ≡ Some o → (c : ℕ) → n ≤ c → left_by p.sort i sx.frames (run d.places d.functions signals c (resumed_frames signals i p p.sort sx.frames) sx.held) ≡ went_x n
  runs_x n o sd c h = later-left d signals i p.sort sx.frames (resumed_frames signals i p p.sort sx.frames) sx.held n c (all_behind rs (rd n)) (actual n) (behind-over rs (rd n) (over-seen i ld (rd n) o sd)) h

  runs_y : (n : ℕ) (o : Seen) → seen_of i le (re n) ≡ Some o → (c : ℕ) → n ≤ c → left_by q.sort i sy.frames (run e.places e.functions signals c (resumed_frames signals i q q.sort sy.frames) sy.held) ≡ went_y n
  runs_y n o se c h =
      let all = all_behind rs (all_aimed sy.held.store.targets (re n)) in
      later-left e signals i q.sort sy.frames (resumed_frames signals i q q.sort sy.frames) sy.held n c all (actual_too n)
      (behind-over rs (all_aimed sy.held.store.targets (re n)) (aimed-over sy.held.store.targets (re n) (over-seen i le (re n) o se))) h
      ∙ ap (λ s. left_by s i sy.frames all) (sym sort)

  -- where the process of e goes well, that of d does
  pub slow-resume : (b : ℕ → ℕ) (ty : Phase) → resume b e signals i q sy ≡ Well ty → Resumed d e d b (λ j n. n ≤ k * b j) (λ i q p y x. Tie k d e i p q x y) i q p sy sx ty signals
  slow-resume b ty well =
      let c = b i in
      let went : went_y c ≡ Well ty = ap (λ s. left_by s i sy.frames (all_behind rs (all_aimed sy.held.store.targets (re c)))) sort ∙ ap (left_by q.sort i sy.frames) (sym (actual_too c)) ∙ well in
      let s = well-seen-aimed i le sy.held.store.targets p.sort sy.frames rs (re c) ty went in
      let g = goes-slow k d e i p q tie.here tie.there turn held.proper proper tie.alike c s.0 s.1 in
      let b2 = both-y (k * c) c ty went (ends (k * c) c s.0 g.0 s.1 g.1) in
      let same = well-same b2.to_too ty (sym b2.is_too ∙ went) in
      record {
        bound = k * c;
        allowed = omega arith;
        to = b2.to;
        runs = λ f h. runs_x (k * c) s.0 g.0 (f i) h ∙ b2.is;
        held = subst (λ u. SameHeld d u b2.to) same (flipped d b2.to b2.to_too b2.held);
        tie = subst (λ u. Tie k d e i p q (middle i b2.to) (middle i u)) same b2.tie;
        own = subst (λ u. Own i sy u) same b2.own_too;
        own_too = b2.own;
      }

  -- and the other way round, with some bound
  pub fast-resume : (b : ℕ → ℕ) (tx : Phase) → resume b d signals i p sx ≡ Well tx → Resumed d d e b (λ j n. Unit {0}) (Tie k d e) i p q sx sy tx signals
  fast-resume b tx well =
      let c = b i in
      let went : went_x c ≡ Well tx = ap (left_by p.sort i sx.frames) (sym (actual c)) ∙ well in
      let s = well-seen i ld p.sort sx.frames rs (rd c) tx went in
      let g = goes-fast k d e i p q tie.here tie.there turn held.proper proper tie.alike c s.0 s.1 in
      let b2 = both-x c g.0 tx went (ends c g.0 s.0 s.1 g.1 g.2) in
      let same = well-same b2.to tx (sym b2.is ∙ went) in
      record {
        bound = g.0;
        allowed = tt;
        to = b2.to_too;
        runs = λ f h. runs_y g.0 s.0 g.1 (f i) h ∙ b2.is_too;
        held = subst (λ u. SameHeld d u b2.to_too) same b2.held;
        tie = subst (λ u. Tie k d e i p q (middle i u) (middle i b2.to_too)) same b2.tie;
        own = subst (λ u. Own i sx u) same b2.own;
        own_too = b2.own_too;
      }

module _ (k : ℕ) (d e : Design) where
  slow-lets : (b : ℕ → ℕ) → Lets d e d b (λ j n. n ≤ k * b j) (λ i q p y x. Tie k d e i p q x y)
  slow-lets b = record {
    none = λ i. omega arith;
    most = λ i m n h g. omega arith;
    resumes = λ i q p sy sx signals sort proper held tie ty well. slow-resume k d e i p q sx sy signals (sym sort) (flipped d sy sx held) tie proper b ty well;
    stays = λ i q p y x y' x' tie fy fx ty tx. tie-stays k d e i p q x y x' y' tie fx fy tx;
  }

  pub fast-lets : (b : ℕ → ℕ) → Lets d d e b (λ j n. Unit {0}) (Tie k d e)
  fast-lets b = record {
    none = λ i. tt;
    most = λ i m n h g. tt;
    resumes = λ i p q sx sy signals sort proper held tie tx well. fast-resume k d e i p q sx sy signals sort held tie proper b tx well;
    stays = λ i p q x y x' y' tie fx fy tx ty. tie-stays k d e i p q x y x' y' tie fx fy tx;
  }

  module _ (s : SameDesign k d e) where
    pub proper-back : (l : Location) (x : ℕ) → IsProperAt e l x → IsProperAt d l x
    proper-back l x h = record {
      fits = subst (λ t. FitsThing t x) (sym (s.things l)) h.fits;
      fixed = subst (λ o. HoldsConstant o x) (sym (s.fixed l)) h.fixed;
      constants = subst (λ o. HoldsConstant o x) (sym (s.constants l)) h.constants;
    }

    requests-back : (rs : List Request) → AllProperRequests e rs → AllProperRequests d rs
    requests-back [] h = tt
    requests-back (r ∷ rs) h = (proper-back r.root r.word h.0, requests-back rs h.1)

    seen-back : (os : List Seen) → AllProperSeen e os → AllProperSeen d os
    seen-back [] h = tt
    seen-back (o ∷ os) h = (proper-by d o.words (λ l. proper-back l (o.words l) (proper-at e o.words h.0 l)), requests-back o.requests h.1, seen-back os h.2)

    first-tie : (i : ℕ) (p q : Process) (sx sy : State) → MeansTheSame k d e i p q → IsSteadyProcess e i q → sx.frames i ≡ first_frames i p → sy.frames i ≡ first_frames i q
        → ((l : Location) → sx.store.targets l ≡ d.targets l) → Tie k d e i p q (middle i (starting sx)) (middle i (starting sy))
    first-tie i p q sx sy m t fx fy tx = record {
      here = at_first d i p;
      there = at_first e i q;
      alike = record { plays = m.plays; only = m.only };
      steady = λ ns ts os h x. seen-back os (t.proper ns ts os (all-proper-too k d e s ts h) x);
      body = t.plain;
      plain = (t.plain, tt);
      frames = fx;
      targets = λ l h. tx l;
      frames_too = fy;
    }

    first-ties : (ps qs : List Process) (i : ℕ) (b : ℕ → ℕ) (sx sy : State) → AllTheSame k d e i ps qs → AllSteady e i qs → AllFirst i ps sx.frames → AllFirst i qs sy.frames → ((l : Location) → sx.store.targets l ≡ d.targets l)
        → Ties d d e b (λ j n. Unit {0}) (Tie k d e) i ps qs (starting sx) (starting sy)
    first-ties [] [] i b sx sy m t fx fy tx = tt
    first-ties (p ∷ ps) (q ∷ qs) i b sx sy m t fx fy tx = (m.0, first-tie i p q sx sy m.1 t.0 fx.0 fy.0 tx, first-ties ps qs (i + 1) b sx sy m.2 t.1 fx.1 fy.1 tx)
    first-ties [] (q ∷ qs) i b sx sy m t fx fy tx = absurd m
    first-ties (p ∷ ps) [] i b sx sy m t fx fy tx = absurd m

    turned : (ps qs : List Process) (i : ℕ) (b : ℕ → ℕ) (sx sy : Phase) → Ties d d e b (λ j n. Unit {0}) (Tie k d e) i ps qs sx sy → Ties d e d b (λ j n. n ≤ k * b j) (λ i q p y x. Tie k d e i p q x y) i qs ps sy sx
    turned [] [] i b sx sy t = tt
    turned (p ∷ ps) (q ∷ qs) i b sx sy t = (sym t.0, t.1, turned ps qs (i + 1) b sx sy t.2)
    turned [] (q ∷ qs) i b sx sy t = absurd t
    turned (p ∷ ps) [] i b sx sy t = absurd t

    pub same-clocks : (ps qs : List Process) (i : ℕ) (l : Location) → AllTheSame k d e i ps qs → list_any (λ p. has_clock l p.sort) ps ≡ list_any (λ p. has_clock l p.sort) qs
    same-clocks [] [] i l m = refl
    same-clocks (p ∷ ps) (q ∷ qs) i l m = λ z. has_clock l (m.0 z) || same-clocks ps qs (i + 1) l m.2 z
    same-clocks [] (q ∷ qs) i l m = absurd m
    same-clocks (p ∷ ps) [] i l m = absurd m

    pub same-inputs : inputs d ≡ inputs e
    same-inputs = λ z. filter (λ l. not (same-clocks d.processes e.processes 0 l s.processes z)) (locations (filter (λ p. is_input p.direction) (s.ports z)))

    pub same-outputs : outputs d ≡ outputs e
    same-outputs = λ z. locations (filter (λ p. not (is_input p.direction)) (s.ports z))

    module _ (steady : IsSteady e) where
      or-first : (a b : Bool) → a ≡ true → (a || b) ≡ true
      or-first true b h = refl
      or-first false b h = cc

      or-second : (a b : Bool) → b ≡ true → (a || b) ≡ true
      or-second true b h = refl
      or-second false b h = h

      free : (ls : List Location) → ((l : Location) → list_any (same l) ls ≡ true → (d.fixed l ≡ None) × (d.constant l ≡ None)) → AllFree d ls
      free [] h = tt
      free (l ∷ ls) h = ((h l (or-first (same l l) (list_any (same l) ls) (same-self l))).0, (h l (or-first (same l l) (list_any (same l) ls) (same-self l))).1, free ls (λ m g. h m (or-second (same m l) (list_any (same m) ls) g)))

      free-inputs : AllFree d (inputs d)
      free-inputs = subst (AllFree d) (sym same-inputs) (free (inputs e) (λ l g. let h = steady.inputs l g in (s.fixed l ∙ h.0, s.constants l ∙ h.1)))

      pub given : (w : Location → ℕ) (xs : List ℕ) → AllFit d (inputs d) xs → IsProper d w → IsProper d (set_inputs (inputs d) xs w)
      given w xs fit h = inputs-proper d (inputs d) xs w free-inputs fit h

      given_too : (w : Location → ℕ) (xs : List ℕ) → AllFit d (inputs d) xs → IsProper d w → IsProper d (set_inputs (inputs e) xs w)
      given_too w xs fit h = subst (λ ls. IsProper d (set_inputs ls xs w)) same-inputs (given w xs fit h)

      all-fits : (b : ℕ → ℕ) (xs : List Step) → FitSteps d xs → AllFits d d e b (λ j n. Unit {0}) (Tie k d e) (fast-lets b) (λ z l. s.things l z) same-inputs same-outputs (AllFit d (inputs d)) given xs
      all-fits b [] h = tt
      all-fits b (x ∷ xs) h = (h.0.0, all-fits b xs h.1)

      all-fits-too : (b : ℕ → ℕ) (xs : List Step) → FitSteps d xs
          → AllFits d e d b (λ j n. n ≤ k * b j) (λ i q p y x. Tie k d e i p q x y) (slow-lets b) (λ z l. sym (s.things l) z) (sym same-inputs) (sym same-outputs) (AllFit d (inputs d)) given_too xs
      all-fits-too b [] h = tt
      all-fits-too b (x ∷ xs) h = (h.0.0, all-fits-too b xs h.1)

      module _ (sx sy : State) (start : IsStart d sx) (start_too : IsStart e sy) (words : (l : Location) → sx.store.words l ≡ sy.store.words l) where
        pub held : SameHeld d (starting sx) (starting sy)
        held = record { words = λ z l. words l z; requests = refl; proper = start.words; asks = tt }

        pub ties : (b : ℕ → ℕ) → Ties d d e b (λ j n. Unit {0}) (Tie k d e) 0 d.processes e.processes (starting sx) (starting sy)
        ties b = first-ties d.processes e.processes 0 b sx sy s.processes steady.processes start.frames start_too.frames start.targets

        -- what e shows with some bounds d shows with k times these bounds
        pub slow-runs : (xs : List Step) → FitSteps d xs → (b : ℕ → ℕ) (os : List Shown) → shown b e xs sy ≡ Well os → shown (λ i. k * b i) d xs sx ≡ Well os
        slow-runs xs fit b os h =
            let g = shown-goes d e d b (λ j n. n ≤ k * b j) (λ i q p y x. Tie k d e i p q x y) (slow-lets b) (λ z l. sym (s.things l) z) (sym same-inputs) (sym same-outputs) (AllFit d (inputs d)) given_too
            xs sy sx (all-fits-too b xs fit) (record { held = flipped d (starting sx) (starting sy) held; ties = turned d.processes e.processes 0 b (starting sx) (starting sy) (ties b) }) os h in
            g.runs (λ i. k * b i) g.allowed ∙ ap Well (sym g.related)

        -- what d shows e shows with some bound
        pub fast-runs : (xs : List Step) → FitSteps d xs → (b : ℕ → ℕ) (os : List Shown) → shown b d xs sx ≡ Well os → Shows e sy xs os
        fast-runs xs fit b os h =
            let g = shown-goes d d e b (λ j n. Unit {0}) (Tie k d e) (fast-lets b) (λ z l. s.things l z) same-inputs same-outputs (AllFit d (inputs d)) given
            xs sx sy (all-fits b xs fit) (record { held = held; ties = ties b }) os h in
            (g.most, g.runs (λ i. g.most) g.within ∙ ap Well (sym g.related))
