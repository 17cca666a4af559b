-- A process that resumes in the middle of a phase leaves what its turn leaves.
use Rattle.std.proofs.Common.{◌≡◌, ℕ, ◌<◌, ◌^◌, Bool, true, false, not, ◌&&◌, ◌||◌, nat_eq, [], Option, Some, None, refl, sym, ap, ◌∙◌, subst, arith, if◌then◌else◌, slice_get, is_some, ◌⊎◌, inl, inr}
use Rattle.std.specs.Prelude.{option_map, unwrap_or}
use Rattle.scc_bits_kinds.specs.Kinds.{width_of}
use Rattle.scc_semantics.specs.Location.{Location}
use Rattle.scc_semantics.specs.Store.{updated}
use Rattle.scc_semantics.specs.Value.{Held}
use Rattle.scc_semantics.specs.Machine.{Frames, Stop, Suspended}
use Rattle.scc_semantics.specs.Design as running
use Rattle.scc_semantics.specs.Process.{State, Phase, Went, Well, is_reset, resumed_frames, framed, resume}
use Rattle.scc_semantics.specs.Process as process
use Rattle.scc_core_spec.specs.Program as program
use Rattle.scc_core_spec.specs.Program.{Program, Process, Edge, Reset, is_root, is_variable, is_local, is_number, is_held}
use Rattle.scc_core_spec.specs.Static.{Cells}
use Rattle.scc_core_spec.specs.Live.{live}
use Rattle.scc_core_spec.specs.Uses.{has_sort, among}
use Rattle.scc_core_spec.specs.Kept.{written_by}
use Rattle.scc_core_spec.specs.Source.{Home, at_top, cell_location, body_of, reset_at, sort_of}
use Rattle.scc_blocks_spec.specs.Acting.{Acting, latest}
use Rattle.scc_blocks_spec.specs.Effect.{effect, Place}
use Rattle.scc_blocks_spec.specs.Turns.{Regs, Left, found, turn, method_left, thread_turn}
use Rattle.scc_blocks_spec.specs.Turns as turns
use Rattle.scc_blocks_spec.specs.Tied.{Tied, first_frames}
use Rattle.scc_core_effect_laws.specs.Sound.{FitWords}
use Rattle.scc_core_effect_laws.specs.Alike.{Both}
use Rattle.scc_core_effect_laws.specs.Follows.{IsSoundCore, Obeys, Meets, Leaves, Does, Tracks, StandsAt, design_of, runs}
use Rattle.scc_core_effect_laws.proofs.Names.{some-same, none-some, true-false, or-left}
use Rattle.scc_core_effect_laws.proofs.Unsure.{unsure, sort-of, has-sort, number-no-root}
use Rattle.scc_core_laws.proofs.Found.{HaveRun, Middle, actual, meets, both, number-held}
use Rattle.scc_core_effect_laws.proofs.Moved.{Moved}
use Rattle.scc_core_effect_laws.proofs.Turning.{LeftAlike, LeftMoved, mine, method-alike, thread-alike, method-moves, thread-moves}

-- a process of the source's design
abbrev pub source_process : Home → Program → ℕ → Process → running.Process
source_process home p i q = record { object = at_top []; sort = sort_of home p q q.is_thread q.edge; body = body_of home p.cells i q.body }

module _ (home : Home) (p : Program) (resolved : IsSoundCore home p) (obeys : Obeys p) (bounds : ℕ → ℕ) (does : Does home p bounds) (tracks : Tracks home p bounds)
    (ran : HaveRun) (s : State) (g : Regs) (tied : Tied home p s g) where
  abbrev cs : Cells
  cs = p.cells

  abbrev at : program.Cell → Location
  at x = cell_location home p x

  abbrev pub Middle' : Phase → Type 0
  Middle' = Middle home p resolved obeys ran s g tied

  -- a process that has an edge has not run yet
  abbrev Anew : ℕ → Process → Type 0
  Anew i q = is_some q.edge ≡ true → ran i q → ⊥

  -- what a resume leaves, and the turn that leaves the same
  pub record Resumed (i : ℕ) (q : Process) (ph to : Phase) (l : Left) : Type 0 where
    pub turned : turn p i q g ≡ Some l
    pub fit : FitWords cs l.acting
    pub unwritten : (c : ℕ) (x : program.Cell) → slice_get cs c ≡ Some x → is_held x.sort ≡ true → among c (written_by cs q) ≡ false
        → (to.held.store.words (at x) ≡ ph.held.store.words (at x)) × ((w : Location → ℕ) → updated to.held.requests w (at x) ≡ updated ph.held.requests w (at x))
    pub numbers : (c : ℕ) (x : program.Cell) → slice_get cs c ≡ Some x → is_number x.sort ≡ true → unsure p i q c ≡ false → to.held.store.words (at x) ≡ latest l.acting c
    pub roots : (c : ℕ) (x : program.Cell) → slice_get cs c ≡ Some x → is_root x.sort ≡ true → to.held.store.words (at x) ≡ ph.held.store.words (at x)
    pub asked : (c : ℕ) (x : program.Cell) (w : Location → ℕ) → slice_get cs c ≡ Some x → is_root x.sort ≡ true → updated to.held.requests w (at x) ≡ unwrap_or (l.acting.asked c) (updated ph.held.requests w (at x))
    pub unasked : (c : ℕ) (x : program.Cell) (w : Location → ℕ) → slice_get cs c ≡ Some x → is_number x.sort ≡ true → updated to.held.requests w (at x) ≡ updated ph.held.requests w (at x)
    pub root_now : (c : ℕ) → has_sort is_root cs c ≡ true → l.acting.now c ≡ (found p i q g).now c
    pub number_fits : (c : ℕ) (x : program.Cell) → slice_get cs c ≡ Some x → is_number x.sort ≡ true → to.held.store.words (at x) < 2 ^ width_of x.kind
    pub frames : (j : ℕ) → nat_eq i j ≡ false → to.frames j ≡ ph.frames j
    pub stands : q.is_thread ≡ true → StandsAt home p i q l.place (to.frames i)

  -- from the words and requests that a run leaves
  made : (i : ℕ) (q : Process) (here : slice_get p.processes i ≡ Some q) (ph : Phase) (middle : Middle' ph) (anew : Anew i q) (k : Held) (f : Frames) (b : Acting) (l : Left) → Leaves home p ph.held k b
      → Moved cs (mine home p resolved obeys i q here) (actual home p resolved obeys ran s g tied i q here ph middle anew) b → Both cs (unsure p i q) b l.acting → turn p i q g ≡ Some l → (q.is_thread ≡ true → StandsAt home p i q l.place f)
      → Resumed i q ph (record { held = k; frames = framed i f ph.frames }) l
  made i q here ph middle anew k f b l leaves moved alike turned stands = record {
    turned = turned;
    fit = alike.fit_too;
    unwritten = λ c x e h w. untouched c x e w (two x.sort h);
    numbers = λ c x e n u. leaves.numbers c x e n ∙ alike.now c u ∙ sym (ap (λ o. unwrap_or o (l.acting.now c)) (sym (alike.asked c) ∙ moved.asked c (no-root c x e n)));
    roots = leaves.roots;
    asked = λ c x w e r. leaves.asked c x w e r ∙ ap (λ o. unwrap_or o (updated ph.held.requests w (at x))) (alike.asked c);
    unasked = leaves.unasked;
    root_now = λ c r. sym (alike.now c (sure c r)) ∙ moved.now c (root-stays c r) ∙ (both home p resolved obeys ran s g tied i q here ph middle anew).now c (sure c r);
    number_fits = λ c x e n. subst (λ m. m < 2 ^ width_of x.kind) (sym (leaves.numbers c x e n)) (alike.fit.fits c x e (number-held x.sort n));
    frames = λ j n. ap (λ t. if t then f else ph.frames j) n;
    stands = λ t. subst (StandsAt home p i q l.place) (sym (ap (λ b. if b then f else ph.frames i) (self i))) (stands t);
  }
    where
      self : (i : ℕ) → nat_eq i i ≡ true
      self i = grind arith

      two : (s : program.Sort) → is_held s ≡ true → (is_root s ≡ true) ⊎ (is_number s ≡ true)
      two s e = by (is_root s) e
        where
          by : (b : Bool) → (b || is_number s) ≡ true → (b ≡ true) ⊎ (is_number s ≡ true)
          by true e = inl refl
          by false e = inr e

      and-false : (a b : Bool) → b ≡ false → (a && b) ≡ false
      and-false true b e = e
      and-false false b e = refl

      and-left : (a b : Bool) → a ≡ false → (a && b) ≡ false
      and-left true b e = true-false e
      and-left false b e = refl

      no-root : (c : ℕ) (x : program.Cell) → slice_get cs c ≡ Some x → is_number x.sort ≡ true → (among c (written_by cs q) && has_sort is_root cs c) ≡ false
      no-root c x e n = and-false _ _ (has-sort is_root cs c x e ∙ number-no-root x.sort n)

      root-stays : (c : ℕ) → has_sort is_root cs c ≡ true → (among c (written_by cs q) && not (has_sort is_root cs c)) ≡ false
      root-stays c r = and-false _ _ (ap not r)

      sure : (c : ℕ) → has_sort is_root cs c ≡ true → unsure p i q c ≡ false
      sure c r = let y = sort-of is_root cs c r in and-left _ _ (has-sort is_number cs c y.0 y.1 ∙ root-no-number y.0.sort y.2)
        where
          root-no-number : (s : program.Sort) → is_root s ≡ true → is_number s ≡ false
          root-no-number s r = by (is_number s) refl
            where
              by : (b : Bool) → is_number s ≡ b → b ≡ false
              by true n = true-false (sym r ∙ number-no-root s n)
              by false n = refl

      found-there : Meets home p s.store.words ph.held.store.words (actual home p resolved obeys ran s g tied i q here ph middle anew)
      found-there = meets home p resolved obeys ran s g tied i q here ph middle anew

      untouched : (c : ℕ) (x : program.Cell) → slice_get cs c ≡ Some x → among c (written_by cs q) ≡ false → ((is_root x.sort ≡ true) ⊎ (is_number x.sort ≡ true))
          → (k.store.words (at x) ≡ ph.held.store.words (at x)) × ((w : Location → ℕ) → updated k.requests w (at x) ≡ updated ph.held.requests w (at x))
      untouched c x e w (inl r) = (leaves.roots c x e r, λ y. leaves.asked c x y e r ∙ ap (λ o. unwrap_or o (updated ph.held.requests y (at x))) (moved.asked c (and-left _ _ w)))
      untouched c x e w (inr n) = (leaves.numbers c x e n ∙ moved.now c (and-left _ _ w) ∙ found-there.numbers c x e n, λ y. leaves.unasked c x y e n)

  -- the turn that is alike
  turned-by : (i : ℕ) (q : Process) (a b : Option Left) (l : Left) → LeftAlike cs (unsure p i q) a b → a ≡ Some l → (m : Left) × (b ≡ Some m) × (l.place ≡ m.place) × Both cs (unsure p i q) l.acting m.acting
  turned-by i q (Some a) (Some b) l h e = (b, refl, ap (λ l. l.place) (sym (some-same a l e)) ∙ h.0, subst (λ l. Both cs (unsure p i q) l.acting b.acting) (some-same a l e) h.1)
  turned-by i q None b l h e = none-some l e
  turned-by i q (Some a) None l h e = absurd h

  moved-by : (i : ℕ) (q : Process) (w : ℕ → Bool) (a : Acting) (o : Option Left) (l : Left) → LeftMoved cs w a o → o ≡ Some l → Moved cs w a l.acting
  moved-by i q w a (Some b) l h e = subst (λ l. Moved cs w a l.acting) (some-same b l e) h
  moved-by i q w a None l h e = none-some l e

  source-first : (i : ℕ) (q : Process) → process.first_frames i (source_process home p i q) ≡ first_frames home p i q
  source-first i q = refl

  method-frames : (i : ℕ) (q : Process) (frames : ℕ → Frames) (b : Bool) → b ≡ false → (o : Option Edge)
      → resumed_frames s.store.words i (source_process home p i q) (sort_of home p q b o) frames ≡ first_frames home p i q
  method-frames i q frames true e o = true-false e
  method-frames i q frames false e None = refl
  method-frames i q frames false e (Some d) = refl

  reset-same : (i : ℕ) (q : Process) → slice_get p.processes i ≡ Some q → (o : Option Reset) → q.reset ≡ o → is_reset s.store.words (option_map (reset_at home p) o) ≡ turns.reset_at g.word o
  reset-same i q here None e = refl
  reset-same i q here (Some r) e =
      let root = resolved.reset_roots i q r here e in
      let x = sort-of is_root cs r.cell root in
      let place : (reset_at home p r).root ≡ at x.0 = ap (λ o. unwrap_or (option_map (cell_location home p) o) (at_top [])) x.1 in
      ap (λ n. nat_eq n (if r.level then 1 else 0)) (ap s.store.words place ∙ tied.words r.cell x.0 x.1 (or-left _ _ root))

  thread-frames : (i : ℕ) (q : Process) → slice_get p.processes i ≡ Some q → (frames : ℕ → Frames) (b : Bool) → b ≡ true → (o : Option Edge) → is_some o ≡ true
      → resumed_frames s.store.words i (source_process home p i q) (sort_of home p q b o) frames ≡ (if turns.reset_at g.word q.reset then first_frames home p i q else frames i)
  thread-frames i q here frames false e o h = true-false (sym e)
  thread-frames i q here frames true e None h = true-false (sym h)
  thread-frames i q here frames true e (Some d) h = ap (λ b. if b then first_frames home p i q else frames i) (reset-same i q here q.reset refl)

  thread-waits : (q : Process) (i : ℕ) (frames : ℕ → Frames) (f : Frames) (h : Held) (b : Bool) → b ≡ true → (o : Option Edge) → is_some o ≡ true
      → process.left_by (sort_of home p q b o) i frames (Suspended f h) ≡ Well (record { held = h; frames = framed i f frames })
  thread-waits q i frames f h false e o s = true-false (sym e)
  thread-waits q i frames f h true e None s = true-false (sym s)
  thread-waits q i frames f h true e (Some d) s = refl

  pub record HasResumed (i : ℕ) (q : Process) (ph : Phase) : Type 0 where
    pub to : Phase
    pub left : Left
    pub goes : resume bounds (design_of home p) s.store.words i (source_process home p i q) ph ≡ Well to
    pub resumed : Resumed i q ph to left

  method-resumes : (i : ℕ) (q : Process) (here : slice_get p.processes i ≡ Some q) (ph : Phase) (middle : Middle' ph) (anew : Anew i q) → q.is_thread ≡ false → HasResumed i q ph
  method-resumes i q here ph middle anew m =
      let a = actual home p resolved obeys ran s g tied i q here ph middle anew in
      let found-both = both home p resolved obeys ran s g tied i q here ph middle anew in
      let d = does.does i q s.store.words ph.held a here m (meets home p resolved obeys ran s g tied i q here ph middle anew) in
      let goes : method_left (effect cs (live cs q.body) a) ≡ Some (record { acting = d.0; place = None }) = ap method_left d.2 in
      let t = turned-by i q _ _ _ (method-alike home p resolved obeys i q here m a (found p i q g) found-both) goes in
      let moved = moved-by i q _ a _ _ (method-moves home p resolved obeys i q here a found-both.fixed found-both.fit) goes in
      record {
        to = record { held = d.1; frames = framed i Stop ph.frames };
        left = t.0;
        goes = ap (λ f. process.left_by (sort_of home p q q.is_thread q.edge) i ph.frames (runs home p s.store.words (bounds i) f ph.held)) (method-frames i q ph.frames q.is_thread m q.edge) ∙ ap (process.left_by (sort_of home p q q.is_thread q.edge) i ph.frames) d.3;
        resumed = made i q here ph middle anew d.1 Stop d.0 t.0 d.4 moved t.3
            (ap (λ b. if b then thread_turn cs q (turns.reset_at g.word q.reset) (g.place i) (found p i q g) else method_left (effect cs (live cs q.body) (found p i q g))) m ∙ t.1) (λ h. true-false (sym h ∙ m));
      }

  pub stands-now : (i : ℕ) (q : Process) → slice_get p.processes i ≡ Some q → q.is_thread ≡ true → (o : Option Place) → g.place i ≡ o → StandsAt home p i q o (s.frames i)
  stands-now i q here t None e = tied.begins i q here t e
  stands-now i q here t (Some place) e = tied.places i q place here t e

  thread-resumes : (i : ℕ) (q : Process) (here : slice_get p.processes i ≡ Some q) (ph : Phase) (middle : Middle' ph) (anew : Anew i q) → q.is_thread ≡ true → HasResumed i q ph
  thread-resumes i q here ph middle anew m =
      let a = actual home p resolved obeys ran s g tied i q here ph middle anew in
      let found-both = both home p resolved obeys ran s g tied i q here ph middle anew in
      let reset = turns.reset_at g.word q.reset in
      let stands = subst (StandsAt home p i q (g.place i)) (sym (middle.frames i q here (anew (resolved.edges i q here m)))) (stands-now i q here m (g.place i) refl) in
      let d = tracks.tracks i q reset (g.place i) (ph.frames i) s.store.words ph.held a here m stands (meets home p resolved obeys ran s g tied i q here ph middle anew) in
      let t = turned-by i q _ _ _ (thread-alike home p resolved obeys i q here m reset (g.place i) a (found p i q g) found-both) d.4 in
      let moved = moved-by i q _ a _ _ (thread-moves home p resolved obeys i q here reset (g.place i) a found-both.fixed found-both.fit) d.4 in
      record {
        to = record { held = d.3; frames = framed i d.2 ph.frames };
        left = t.0;
        goes = ap (λ f. process.left_by (sort_of home p q q.is_thread q.edge) i ph.frames (runs home p s.store.words (bounds i) f ph.held)) (thread-frames i q here ph.frames q.is_thread m q.edge (resolved.edges i q here m)) ∙ ap (process.left_by (sort_of home p q q.is_thread q.edge) i ph.frames) d.5 ∙ thread-waits q i ph.frames d.2 d.3 q.is_thread m q.edge (resolved.edges i q here m);
        resumed = made i q here ph middle anew d.3 d.2 d.0 t.0 d.6 moved t.3
            (ap (λ b. if b then thread_turn cs q reset (g.place i) (found p i q g) else method_left (effect cs (live cs q.body) (found p i q g))) m ∙ t.1)
            (λ h. subst (λ o. StandsAt home p i q o d.2) t.2 d.7);
      }

  pub resumes : (i : ℕ) (q : Process) (here : slice_get p.processes i ≡ Some q) (ph : Phase) (middle : Middle' ph) (anew : Anew i q) → HasResumed i q ph
  resumes i q here ph middle anew = by q.is_thread refl
    where
      by : (b : Bool) → q.is_thread ≡ b → HasResumed i q ph
      by true m = thread-resumes i q here ph middle anew m
      by false m = method-resumes i q here ph middle anew m
