-- What a method that has run left stands until it runs again, and where what it reads stays it leaves the same.
use Rattle.std.proofs.Common.{◌≡◌, ℕ, Bool, true, false, not, ◌&&◌, ◌||◌, nat_eq, List, [], ◌∷◌, Option, Some, None, refl, sym, ap, ◌∙◌, arith, if◌then◌else◌, slice_get, is_some, ◌⊎◌, inl, inr}
use Rattle.std.specs.Prelude.{option_map, option_and_then, unwrap_or}
use Rattle.std.specs.List.{list_any, cons_option}
use Rattle.scc_semantics.specs.Location.{Location}
use Rattle.scc_semantics.specs.Design.{Design}
use Rattle.scc_semantics.specs.Process.{State, Well}
use Rattle.scc_semantics.specs.Process as process
use Rattle.scc_semantics.specs.Schedule.{Running, Covers, among, senses_of, has_changed, must_run, round, found_after}
use Rattle.scc_core_spec.specs.Program as program
use Rattle.scc_core_spec.specs.Program.{Program, Process, Edge, is_root, is_number, is_held, is_combinational, is_combinational_by}
use Rattle.scc_core_spec.specs.Static.{Cells}
use Rattle.scc_core_spec.specs.Uses.{has_sort}
use Rattle.scc_core_spec.specs.Kept.{written_by}
use Rattle.scc_core_spec.specs.Source.{Home, cell_location, senses_at, sort_of}
use Rattle.scc_blocks_spec.specs.Names.{holds_word}
use Rattle.scc_blocks_spec.specs.Passed.{all_reads}
use Rattle.scc_blocks_spec.specs.Turns.{Regs, Taking, turn, acted}
use Rattle.scc_blocks_spec.specs.Tied.{Tied}
use Rattle.scc_core_effect_laws.specs.Follows.{IsSoundCore, Obeys, Does, Tracks, design_of}
use Rattle.scc_core_effect_laws.specs.Ordering.{IsOrdered, Answers}
use Rattle.scc_core_effect_laws.proofs.Names.{and-first, and-both, or-first, or-second, or-left, some-same, none-some, true-false}
use Rattle.scc_core_effect_laws.proofs.Unsure.{is-false, has-sort, sort-of}
use Rattle.scc_core_laws.proofs.Phases.{keeps-it}
use Rattle.scc_core_laws.proofs.Settling.{combines}
use Rattle.scc_core_laws.proofs.Asking.{same-asked, tied-answers}
use Rattle.scc_core_order_laws.proofs.Taken.{says, wrote-or-left, Wrote, Left}
use Rattle.scc_core_order_laws.proofs.Rounds.{no-edge, process-is, method-at, methods-fresh, round-follows}

-- a combinational method is sensitive to each root that it reads
abbrev pub Senses : Program → Type 0
Senses p = (i x : ℕ) (q : Process) → slice_get p.processes i ≡ Some q → is_combinational q ≡ true → has_sort is_root p.cells x ≡ true → among x (all_reads p.cells q) ≡ true → among x q.senses ≡ true

-- what these processes don't write
pub record Stays (p : Program) (g h : Regs) : Type 0 where
  pub roots : (c : ℕ) → has_sort is_root p.cells c ≡ true → ((i : ℕ) (q : Process) → slice_get p.processes i ≡ Some q → is_combinational q ≡ true → among c (written_by p.cells q) ≡ true → ⊥) → h.word c ≡ g.word c
  pub numbers : (c : ℕ) (x : program.Cell) → slice_get p.cells c ≡ Some x → is_number x.sort ≡ true → holds_word p c ≡ true → h.word c ≡ g.word c
  pub places : (i : ℕ) (q : Process) → slice_get p.processes i ≡ Some q → h.place i ≡ g.place i

pub stays-self : (p : Program) (g : Regs) → Stays p g g
stays-self p g = record { roots = λ c r n. refl; numbers = λ c x e n k. refl; places = λ i q e. refl }

pub stays-then : (p : Program) (g h k : Regs) → Stays p g h → Stays p h k → Stays p g k
stays-then p g h k a b = record {
  roots = λ c r n. b.roots c r n ∙ a.roots c r n;
  numbers = λ c x e n k. b.numbers c x e n k ∙ a.numbers c x e n k;
  places = λ i q e. b.places i q e ∙ a.places i q e;
}

comb-two : (t : Bool) (o : Option Edge) → is_combinational_by t o ≡ true → (t ≡ false) × (o ≡ None)
comb-two true o e = true-false (sym e)
comb-two false (Some d) e = true-false (sym e)
comb-two false None e = (refl, refl)

-- the registers from which a method ran that found these signals, and what it left
pub record Ran (home : Home) (p : Program) (i : ℕ) (q : Process) (f : Location → ℕ) (g : Regs) : Type 0 where
  pub start : Regs
  pub answers : Answers p start
  pub met : (c : ℕ) (x : program.Cell) → slice_get p.cells c ≡ Some x → is_root x.sort ≡ true → start.word c ≡ f (cell_location home p x)
  pub stands : (x : ℕ) → has_sort is_root p.cells x ≡ true → among x (written_by p.cells q) ≡ true → g.word x ≡ says p i x q start

-- what each method that has run left stands
pub record HasRun (home : Home) (p : Program) (r : Running) (g : Regs) : Type 0 where
  pub ran : (i : ℕ) (q : Process) (f : Location → ℕ) → slice_get p.processes i ≡ Some q → is_combinational q ≡ true → r.found i ≡ Some f → Ran home p i q f g

module _ (home : Home) (p : Program) (resolved : IsSoundCore home p) (obeys : Obeys p) (bounds : ℕ → ℕ) (does : Does home p bounds) (tracks : Tracks home p bounds) where
  abbrev cs : Cells
  cs = p.cells

  abbrev at : program.Cell → Location
  at x = cell_location home p x

  abbrev pub D : Design
  D = design_of home p

  -- processes of which none is a method leave alone what methods left
  pub others-keep : (takes : Taking) → ((i : ℕ) (q : Process) → slice_get p.processes i ≡ Some q → takes i q ≡ true → is_combinational q ≡ true → ⊥) → (r : Running) (s : State) (g : Regs) → HasRun home p r g
      → HasRun home p (record { state = s; found = r.found }) (acted p takes g)
  others-keep takes none r s g has = record {
    ran = λ i q f here comb e. let m = has.ran i q f here comb e in record {
      start = m.start;
      answers = m.answers;
      met = m.met;
      stands = λ x root w. same i q here comb x root w (wrote-or-left p takes g x) ∙ m.stands x root w;
    };
  }
    where
      same : (i : ℕ) (q : Process) → slice_get p.processes i ≡ Some q → is_combinational q ≡ true → (x : ℕ) → has_sort is_root cs x ≡ true → among x (written_by cs q) ≡ true → ((Wrote p takes g x) ⊎ (Left p takes g x)) → (acted p takes g).word x ≡ g.word x
      same i q here comb x root w (inr n) = n.1
      same i q here comb x root w (inl v) =
          let one : v.0 ≡ i = obeys.writers v.0 i x v.1 q v.2 here root v.4 w in
          let equal : v.1 ≡ q = some-same v.1 q (sym v.2 ∙ ap (slice_get p.processes) one ∙ here) in
          absurd (none v.0 v.1 v.2 v.3 (ap is_combinational equal ∙ comb))

  -- methods change the roots that they write, and nothing else
  module _ (s : State) (g0 : Regs) (tied : Tied home p s g0) where
    pub methods-stay : (takes : Taking) → ((i : ℕ) (q : Process) → slice_get p.processes i ≡ Some q → takes i q ≡ true → is_combinational q ≡ true) → (g : Regs) → Stays p g (acted p takes g)
    methods-stay takes combs g = record {
      roots = λ c root none. root-stays c none (wrote-or-left p takes g c);
      numbers = λ c x e n k. number-stays c x e n k (wrote-or-left p takes g c);
      places = λ i q here. ap (λ o. unwrap_or (option_and_then (λ q. if takes i q && q.is_thread then option_map (λ l. l.place) (turn p i q g) else None) o) (g.place i)) here ∙ place-stays i q here (takes i q) refl;
    }
      where
        root-stays : (c : ℕ) → ((i : ℕ) (q : Process) → slice_get p.processes i ≡ Some q → is_combinational q ≡ true → among c (written_by cs q) ≡ true → ⊥) → ((Wrote p takes g c) ⊎ (Left p takes g c)) → (acted p takes g).word c ≡ g.word c
        root-stays c none (inr n) = n.1
        root-stays c none (inl v) = absurd (none v.0 v.1 v.2 (combs v.0 v.1 v.2 v.3) v.4)

        number-stays : (c : ℕ) (x : program.Cell) → slice_get cs c ≡ Some x → is_number x.sort ≡ true → holds_word p c ≡ true → ((Wrote p takes g c) ⊎ (Left p takes g c)) → (acted p takes g).word c ≡ g.word c
        number-stays c x e n k (inr m) = m.1
        number-stays c x e n k (inl v) =
            let kept = keeps-it home p resolved obeys bounds does tracks (λ i q. is_combinational q) process.is_combinational (combines home p resolved obeys bounds does tracks) s g0 tied v.0 c v.1 x v.2 e n k v.4 in
            absurd (no-edge v.1 (combs v.0 v.1 v.2 v.3) (and-first (is_some v.1.edge) _ kept))

        place-stays : (i : ℕ) (q : Process) → slice_get p.processes i ≡ Some q → (t : Bool) → takes i q ≡ t → unwrap_or (if t && q.is_thread then option_map (λ l. l.place) (turn p i q g) else None) (g.place i) ≡ g.place i
        place-stays i q here false e = refl
        place-stays i q here true e = ap (λ b. unwrap_or (if b then option_map (λ l. l.place) (turn p i q g) else None) (g.place i)) (comb-two q.is_thread q.edge (combs i q here e)).0

  -- ---- a round of methods
  module _ (order : List ℕ) (ordered : IsOrdered p order) (senses : Senses p) (b : ℕ → ℕ) (r : Running) (g : Regs) (tied : Tied home p r.state g) (has : HasRun home p r g) (runs : List ℕ) (covers : Covers D r runs)
      (s : State) (goes : round b D runs r.state ≡ Well s) where
    abbrev takes : Taking
    takes i q = among i runs

    pub after : Regs
    after = acted p (λ i q. among i runs) g

    combs : (i : ℕ) (q : Process) → slice_get p.processes i ≡ Some q → takes i q ≡ true → is_combinational q ≡ true
    combs i q here m =
        let z = method-at home p resolved obeys bounds does tracks i (covers.methods i m) in
        ap is_combinational (some-same q z.0 (sym here ∙ z.1)) ∙ z.2

    pub tied-after : Tied home p s after
    unfolding after
    tied-after = round-follows home p resolved obeys bounds does tracks b r.state g tied runs takes (methods-fresh home p resolved obeys bounds does tracks runs (λ i. false) covers.methods) (λ i q here. refl) s goes

    pub stays-after : Stays p g after
    unfolding after
    stays-after = methods-stay r.state g tied takes combs g

    -- a method that ran leaves what it says, and one that didn't what it had left
    pub ran-says : (i x : ℕ) (q : Process) → slice_get p.processes i ≡ Some q → has_sort is_root cs x ≡ true → among x (written_by cs q) ≡ true → among i runs ≡ true → after.word x ≡ says p i x q g
    unfolding after
    ran-says i x q here root w m = by (wrote-or-left p takes g x)
      where
        by : ((Wrote p takes g x) ⊎ (Left p takes g x)) → (acted p takes g).word x ≡ says p i x q g
        by (inr n) = absurd (n.0 i q here m w)
        by (inl v) =
            let one : v.0 ≡ i = obeys.writers v.0 i x v.1 q v.2 here root v.4 w in
            let equal : v.1 ≡ q = some-same v.1 q (sym v.2 ∙ ap (slice_get p.processes) one ∙ here) in
            v.5 ∙ (λ k. says p (one k) x (equal k) g)

    pub idle-stays : (i x : ℕ) (q : Process) → slice_get p.processes i ≡ Some q → has_sort is_root cs x ≡ true → among x (written_by cs q) ≡ true → among i runs ≡ false → after.word x ≡ g.word x
    unfolding after
    idle-stays i x q here root w m = by (wrote-or-left p takes g x)
      where
        by : ((Wrote p takes g x) ⊎ (Left p takes g x)) → (acted p takes g).word x ≡ g.word x
        by (inr n) = n.1
        by (inl v) =
            let one : v.0 ≡ i = obeys.writers v.0 i x v.1 q v.2 here root v.4 w in
            true-false (sym v.3 ∙ ap (λ n. among n runs) one ∙ m)

    pub has-after : HasRun home p (record { state = s; found = found_after b D runs r }) after
    has-after = record { ran = λ i q f here comb e. by i q f here comb (among i runs) refl e }
      where
        by : (i : ℕ) (q : Process) (f : Location → ℕ) → slice_get p.processes i ≡ Some q → is_combinational q ≡ true → (m : Bool) → among i runs ≡ m → (if m then Some r.state.store.words else r.found i) ≡ Some f → Ran home p i q f after
        by i q f here comb true m e = record {
          start = g;
          answers = tied-answers home p resolved obeys bounds does tracks order ordered r.state g tied;
          met = λ c x there root. sym (tied.words c x there (or-left _ _ (has-sort is_root cs c x there ∙ root))) ∙ ap (λ f. f (at x)) (some-same r.state.store.words f e);
          stands = λ x root w. ran-says i x q here root w m;
        }
        by i q f here comb false m e =
            let old = has.ran i q f here comb e in
            record { start = old.start; answers = old.answers; met = old.met; stands = λ x root w. idle-stays i x q here root w m ∙ old.stands x root w }

    -- ---- where what it reads stays
    sort-senses : (q : Process) → (t : Bool) (o : Option Edge) → t ≡ false → o ≡ None → senses_of (sort_of home p q t o) ≡ senses_at home p q.senses
    sort-senses q true o e f = true-false e
    sort-senses q false None e f = refl
    sort-senses q false (Some d) e f = none-some d (sym f)

    listed : (test : Location → Bool) (ns : List ℕ) (c : ℕ) (x : program.Cell) → list_any test (senses_at home p ns) ≡ false → among c ns ≡ true → slice_get cs c ≡ Some x → test (at x) ≡ false
    listed test [] c x none m e = true-false (sym m)
    listed test (n ∷ ns) c x none m e = by (nat_eq c n) refl m (λ none m. listed test ns c x none m e)
      where
        equal : nat_eq c n ≡ true → n ≡ c
        equal q = grind arith

        rest : (o : Option Location) → list_any test (cons_option o (senses_at home p ns)) ≡ false → list_any test (senses_at home p ns) ≡ false
        rest None none = none
        rest (Some l) none = or-second (test l) _ none

        by : (t : Bool) → nat_eq c n ≡ t → (t || among c ns) ≡ true → (list_any test (senses_at home p ns) ≡ false → among c ns ≡ true → test (at x) ≡ false) → test (at x) ≡ false
        by true q m more = or-first (test (at x)) _ (ap (λ o. list_any test (cons_option (option_map at o) (senses_at home p ns))) (sym e ∙ ap (slice_get cs) (sym (equal q))) ∙ none)
        by false q m more = more (rest (option_map at (slice_get cs n)) none) m

    -- one that needn't run found what it would find
    as-found : (i : ℕ) (q : Process) → slice_get p.processes i ≡ Some q → is_combinational q ≡ true → among i runs ≡ false
        → (f : Location → ℕ) × (r.found i ≡ Some f) × ((c : ℕ) (x : program.Cell) → slice_get cs c ≡ Some x → among c q.senses ≡ true → f (at x) ≡ r.state.store.words (at x))
    as-found i q here comb m = by (r.found i) refl unchanged
      where
        unchanged : has_changed (r.found i) r.state.store.words (senses_at home p q.senses) ≡ false
        unchanged = is-false _ (λ h. true-false (sym (covers.all i (must h)) ∙ m))
          where
            two : (q.is_thread ≡ false) × (q.edge ≡ None)
            two = comb-two q.is_thread q.edge comb

            must : has_changed (r.found i) r.state.store.words (senses_at home p q.senses) ≡ true → must_run D r i ≡ true
            must h =
                ap (λ o. unwrap_or (option_map (λ z. process.is_combinational z && has_changed (r.found i) r.state.store.words (senses_of z.sort)) o) false) (process-is home p i q here)
                ∙ and-both _ _ (combines home p resolved obeys bounds does tracks i q here ∙ comb) (ap (has_changed (r.found i) r.state.store.words) (sort-senses q q.is_thread q.edge two.0 two.1) ∙ h)

        same : (n k : ℕ) → not (nat_eq n k) ≡ false → n ≡ k
        same n k e = grind (arith, e)

        by : (o : Option (Location → ℕ)) → r.found i ≡ o → has_changed o r.state.store.words (senses_at home p q.senses) ≡ false
            → (f : Location → ℕ) × (r.found i ≡ Some f) × ((c : ℕ) (x : program.Cell) → slice_get cs c ≡ Some x → among c q.senses ≡ true → f (at x) ≡ r.state.store.words (at x))
        by None e h = true-false h
        by (Some f) e h = (f, e, λ c x there l. same (f (at x)) (r.state.store.words (at x)) (listed (λ l. not (nat_eq (f l) (r.state.store.words l))) q.senses c x h l there))

    -- where what it reads is as it was, what stands is what it says
    pub at-rest : (i x : ℕ) (q : Process) → slice_get p.processes i ≡ Some q → is_combinational q ≡ true → has_sort is_root cs x ≡ true → among x (written_by cs q) ≡ true
        → ((c : ℕ) → among c (all_reads cs q) ≡ true → has_sort is_root cs c ≡ true → after.word c ≡ g.word c) → says p i x q after ≡ after.word x
    at-rest i x q here comb root w agree = by (among i runs) refl
      where
        answers-after : Answers p after
        answers-after = tied-answers home p resolved obeys bounds does tracks order ordered s after tied-after

        by : (m : Bool) → among i runs ≡ m → says p i x q after ≡ after.word x
        by true m =
            same-asked home p resolved obeys bounds does tracks order ordered after g answers-after (tied-answers home p resolved obeys bounds does tracks order ordered r.state g tied) i x q here comb root w agree ∙ sym (ran-says i x q here root w m)
        by false m =
            let f = as-found i q here comb m in
            let old = has.ran i q f.0 here comb f.1 in
            same-asked home p resolved obeys bounds does tracks order ordered after old.start answers-after old.answers i x q here comb root w (λ c v o. agree c v o ∙ met f.0 f.2 old c v o)
            ∙ sym (idle-stays i x q here root w m ∙ old.stands x root w)
          where
            met : (f : Location → ℕ) → ((c : ℕ) (x : program.Cell) → slice_get cs c ≡ Some x → among c q.senses ≡ true → f (at x) ≡ r.state.store.words (at x)) → (old : Ran home p i q f g)
                → (c : ℕ) → among c (all_reads cs q) ≡ true → has_sort is_root cs c ≡ true → g.word c ≡ old.start.word c
            met f same old c v o =
                let z = sort-of is_root cs c o in
                sym (tied.words c z.0 z.1 (or-left _ _ o)) ∙ sym (same c z.0 z.1 (senses i c q here comb o v)) ∙ sym (old.met c z.0 z.1 z.2)
