-- Processes that run one after another in any order, all on the same signals, leave what they leave together; methods may run again.
use Rattle.std.proofs.Common.{◌≡◌, ℕ, ◌<◌, ◌^◌, Bool, true, false, not, ◌&&◌, ◌||◌, nat_eq, Option, Some, None, refl, sym, ap, ◌∙◌, subst, arith, if◌then◌else◌, slice_get, is_some, ◌⊎◌, inl, inr}
use Rattle.std.specs.Prelude.{option_map, option_and_then, unwrap_or}
use Rattle.scc_bits_kinds.specs.Kinds.{width_of}
use Rattle.scc_semantics.specs.Location.{Location}
use Rattle.scc_semantics.specs.Store.{updated}
use Rattle.scc_semantics.specs.Process as process
use Rattle.scc_semantics.specs.Process.{State, Phase, Well, resume, update}
use Rattle.scc_core_spec.specs.Program as program
use Rattle.scc_core_spec.specs.Program.{Program, Process, is_root, is_number, is_held, is_combinational}
use Rattle.scc_core_spec.specs.Static.{Cells}
use Rattle.scc_core_spec.specs.Uses.{has_sort, among}
use Rattle.scc_core_spec.specs.Kept.{written_by}
use Rattle.scc_core_spec.specs.Constants.{written, constant_if}
use Rattle.scc_core_spec.specs.Source.{Home, cell_location}
use Rattle.scc_blocks_spec.specs.Acting.{latest}
use Rattle.scc_blocks_spec.specs.Effect.{Place}
use Rattle.scc_blocks_spec.specs.Names.{holds_word, keeps}
use Rattle.scc_blocks_spec.specs.Turns.{Regs, Taking, Left, constant_at, lasts, found, turn, place_from, acted}
use Rattle.scc_blocks_spec.specs.Tied.{Tied}
use Rattle.scc_core_effect_laws.specs.Sound.{FitWords}
use Rattle.scc_core_effect_laws.specs.Follows.{IsSoundCore, Obeys, Does, Tracks, StandsAt, design_of}
use Rattle.scc_core_effect_laws.proofs.Names.{or-left, or-right, some-same, true-false}
use Rattle.scc_core_effect_laws.proofs.Unsure.{flat-has, is-false, has-sort}
use Rattle.scc_core_laws.proofs.Found.{HaveRun, Untaken, Middle, constant-held, constant-unwritten, root-held, number-held}
use Rattle.scc_core_laws.proofs.Resumes.{Resumed, stands-now}
use Rattle.scc_core_laws.proofs.Phases.{updated-at, word-is-held, held-two, keeps-it, only-writer}
use Rattle.scc_core_laws.proofs.Settling.{combines}
use Rattle.scc_core_order_laws.proofs.Taken.{says, wrote-or-left, Wrote, Left as Stays}

eq-self : (i : ℕ) → nat_eq i i ≡ true
eq-self i = grind arith

eq-is : (i j : ℕ) → nat_eq i j ≡ true → i ≡ j
eq-is i j e = grind arith

eq-turned : (i j : ℕ) → nat_eq i j ≡ true → nat_eq j i ≡ true
eq-turned i j e = grind arith

twice : (o : Option ℕ) (n : ℕ) → unwrap_or o (unwrap_or o n) ≡ unwrap_or o n
twice None n = refl
twice (Some w) n = refl

-- one more
abbrev pub with_one : ℕ → (ℕ → Bool) → ℕ → Bool
with_one i has j = nat_eq j i || has j

module _ (home : Home) (p : Program) (resolved : IsSoundCore home p) (obeys : Obeys p) (bounds : ℕ → ℕ) (does : Does home p bounds) (tracks : Tracks home p bounds) (s : State) (g : Regs) (tied : Tied home p s g) where
  abbrev cs : Cells
  cs = p.cells

  abbrev at : program.Cell → Location
  at x = cell_location home p x

  abbrev pub RanOf : (ℕ → Bool) → HaveRun
  RanOf has j r = has j ≡ true

  abbrev Un : (ℕ → Bool) → ℕ → Type 0
  Un has = Untaken home p resolved obeys (RanOf has) s g tied

  abbrev pub Mid : (ℕ → Bool) → Phase → Type 0
  Mid has = Middle home p resolved obeys (RanOf has) s g tied

  abbrev pub Res : (ℕ → Bool) → ℕ → Process → Phase → Phase → Left → Type 0
  Res has = Resumed home p resolved obeys bounds does tracks (RanOf has) s g tied

  -- the turn that a process has taken
  abbrev Turned : ℕ → Process → Phase → Type 0
  Turned j q ph = (l : Left) × (turn p j q g ≡ Some l) × FitWords cs l.acting × (q.is_thread ≡ true → StandsAt home p j q l.place (ph.frames j))

  -- these have run
  pub record Done (has : ℕ → Bool) (ph : Phase) : Type 0 where
    pub middle : Mid has ph
    pub turned : (j : ℕ) (q : Process) → slice_get p.processes j ≡ Some q → has j ≡ true → Turned j q ph
    pub wrote : (j c : ℕ) (q : Process) (x : program.Cell) → slice_get p.processes j ≡ Some q → slice_get cs c ≡ Some x → is_held x.sort ≡ true → holds_word p c ≡ true → has j ≡ true → among c (written_by cs q) ≡ true
        → updated ph.held.requests ph.held.store.words (at x) ≡ says p j c q g

  combs : Taking
  combs i q = is_combinational q

  the-writer : (i j c : ℕ) (q r : Process) (x : program.Cell) → slice_get p.processes i ≡ Some q → slice_get p.processes j ≡ Some r → slice_get cs c ≡ Some x → is_held x.sort ≡ true → holds_word p c ≡ true
      → among c (written_by cs q) ≡ true → among c (written_by cs r) ≡ true → j ≡ i
  the-writer = only-writer home p resolved obeys bounds does tracks (λ i q. is_combinational q) process.is_combinational (combines home p resolved obeys bounds does tracks) s g tied

  kept-it : (i c : ℕ) (q : Process) (x : program.Cell) → slice_get p.processes i ≡ Some q → slice_get cs c ≡ Some x → is_number x.sort ≡ true → holds_word p c ≡ true → among c (written_by cs q) ≡ true → keeps cs i q c ≡ true
  kept-it = keeps-it home p resolved obeys bounds does tracks (λ i q. is_combinational q) process.is_combinational (combines home p resolved obeys bounds does tracks) s g tied

  two-sorts : (s : program.Sort) → is_held s ≡ true → (is_root s ≡ true) ⊎ (is_number s ≡ true)
  two-sorts = held-two home p resolved obeys bounds does tracks (λ i q. is_combinational q) process.is_combinational (combines home p resolved obeys bounds does tracks) s g tied

  -- nothing was written there yet
  quiet : (has : ℕ → Bool) (ph : Phase) (c : ℕ) (x : program.Cell) → Mid has ph → slice_get cs c ≡ Some x → is_held x.sort ≡ true → Un has c → updated ph.held.requests ph.held.store.words (at x) ≡ s.store.words (at x)
  quiet has ph c x m e h u = by (two-sorts x.sort h)
    where
      by : ((is_root x.sort ≡ true) ⊎ (is_number x.sort ≡ true)) → updated ph.held.requests ph.held.store.words (at x) ≡ s.store.words (at x)
      by (inl r) = m.asked c x ph.held.store.words e r u ∙ m.roots c x e r
      by (inr n) = m.unasked c x ph.held.store.words e n ∙ m.numbers c x e n u

  module _ (has : ℕ → Bool) (i : ℕ) (q : Process) (here : slice_get p.processes i ≡ Some q) (ph to : Phase) (l : Left) (done : Done has ph) (r : Res has i q ph to l) where
    m : Mid has ph
    m = done.middle

    abbrev has' : ℕ → Bool
    has' = with_one i has

    less : (c : ℕ) → Un has' c → Un has c
    less c u j y b f w = u j y (or-right (nat_eq j i) (has j) b) f w

    free : (c : ℕ) → Un has' c → among c (written_by cs q) ≡ false
    free c u = is-false _ (λ w. u i q (or-left (nat_eq i i) (has i) (eq-self i)) here w)

    apart : (j : ℕ) → (has' j ≡ true → ⊥) → nat_eq i j ≡ false
    apart j n = is-false _ (λ h. n (or-left (nat_eq j i) (has j) (eq-turned i j h)))

    asked-fits : (c : ℕ) (x : program.Cell) (w : Location → ℕ) → slice_get cs c ≡ Some x → is_root x.sort ≡ true → w (at x) < 2 ^ width_of x.kind → (o : Option ℕ) → l.acting.asked c ≡ o → updated to.held.requests w (at x) < 2 ^ width_of x.kind
    unfolding m
    asked-fits c x w e o f None a = subst (λ n. n < 2 ^ width_of x.kind) (sym (r.asked c x w e o ∙ ap (λ z. unwrap_or z (updated ph.held.requests w (at x))) a)) (m.fit_asked c x w e o f)
    asked-fits c x w e o f (Some v) a = subst (λ n. n < 2 ^ width_of x.kind) (sym (r.asked c x w e o ∙ ap (λ z. unwrap_or z (updated ph.held.requests w (at x))) a)) (r.fit.asked c x v e (root-held x.sort o) a)

    middle-next : Mid has' to
    unfolding m
    middle-next = record {
      numbers = λ c x e n u. (r.unwritten c x e (number-held x.sort n) (free c u)).0 ∙ m.numbers c x e n (less c u);
      roots = λ c x e o. r.roots c x e o ∙ m.roots c x e o;
      asked = λ c x w e o u. (r.unwritten c x e (root-held x.sort o) (free c u)).1 w ∙ m.asked c x w e o (less c u);
      unasked = λ c x w e n. r.unasked c x w e n ∙ m.unasked c x w e n;
      fit = r.number_fits;
      fit_asked = λ c x w e o f. asked-fits c x w e o f (l.acting.asked c) refl;
      frames = λ j y e n. r.frames j (apart j n) ∙ m.frames j y e (λ b. n (or-right (nat_eq j i) (has j) b));
    }

    wrote-is : (c : ℕ) → says p i c q g ≡ latest l.acting c
    wrote-is c = ap (λ o. unwrap_or (option_map (λ l. latest l.acting c) o) (g.word c)) r.turned

    not-unsure : (a b c : Bool) → c ≡ true → (a && (not b && not c)) ≡ false
    not-unsure true true c h = refl
    not-unsure true false true h = refl
    not-unsure true false false h = true-false (sym h)
    not-unsure false b c h = refl

    -- what it has asked and written last counts
    latest-now : (c : ℕ) (x : program.Cell) → slice_get cs c ≡ Some x → is_held x.sort ≡ true → holds_word p c ≡ true → among c (written_by cs q) ≡ true → updated to.held.requests to.held.store.words (at x) ≡ says p i c q g
    unfolding m
    latest-now c x e h k w = by (two-sorts x.sort h) ∙ sym (wrote-is c)
      where
        by : ((is_root x.sort ≡ true) ⊎ (is_number x.sort ≡ true)) → updated to.held.requests to.held.store.words (at x) ≡ latest l.acting c
        by (inr n) =
            r.unasked c x to.held.store.words e n ∙ m.unasked c x to.held.store.words e n
            ∙ r.numbers c x e n (not-unsure (has_sort is_number cs c) (is_some (constant_at p c)) (keeps cs i q c) (kept-it i c q x here e n k w))
        by (inl o) = r.asked c x to.held.store.words e o ∙ cases (has i) refl
          where
            root : has_sort is_root cs c ≡ true
            root = has-sort is_root cs c x e ∙ o

            no-constant : constant_at p c ≡ None
            no-constant = ap (option_and_then (λ x. constant_if (among c (written p)) x.sort)) e ∙ ap (λ b. constant_if b x.sort) (flat-has (written_by cs) c p.processes i q here w)

            found-now : (found p i q g).now c ≡ g.word c
            found-now = ap (λ o. unwrap_or o (if lasts cs i q c then g.word c else 0)) no-constant ∙ ap (λ b. if b then g.word c else 0) (or-left (has_sort is_root cs c) _ root)

            alone : has i ≡ false → Un has c
            alone n j y b f v =
                let one : j ≡ i = the-writer i j c q y x here f e h k w v in
                true-false (sym b ∙ ap has one ∙ n)

            cases : (b : Bool) → has i ≡ b → unwrap_or (l.acting.asked c) (updated ph.held.requests to.held.store.words (at x)) ≡ latest l.acting c
            cases false n =
                ap (unwrap_or (l.acting.asked c)) (m.asked c x to.held.store.words e o (alone n) ∙ r.roots c x e o ∙ m.roots c x e o ∙ tied.words c x e k ∙ sym (r.root_now c root ∙ found-now))
            cases true n =
                ap (unwrap_or (l.acting.asked c)) (updated-at ph.held.requests to.held.store.words ph.held.store.words (at x) (r.roots c x e o) ∙ done.wrote i c q x here e h k n w ∙ wrote-is c)
                ∙ twice (l.acting.asked c) (l.acting.now c)

    turned-next : (j : ℕ) (y : Process) → slice_get p.processes j ≡ Some y → has' j ≡ true → Turned j y to
    turned-next j y f a = by (nat_eq j i) refl a
      where
        by : (b : Bool) → nat_eq j i ≡ b → (b || has j) ≡ true → Turned j y to
        by true e a =
            let one = eq-is j i e in
            let same : y ≡ q = some-same y q (sym f ∙ ap (slice_get p.processes) one ∙ here) in
            subst (λ n. Turned n y to) (sym one) (subst (λ y. Turned i y to) (sym same) (l, r.turned, r.fit, r.stands))
        by false e a =
            let t = done.turned j y f a in
            (t.0, t.1, t.2, λ h. subst (StandsAt home p j y t.0.place) (sym (r.frames j (is-false _ (λ n. true-false (sym (eq-turned i j n) ∙ e))))) (t.3 h))

    wrote-next : (j c : ℕ) (y : Process) (x : program.Cell) → slice_get p.processes j ≡ Some y → slice_get cs c ≡ Some x → is_held x.sort ≡ true → holds_word p c ≡ true → has' j ≡ true → among c (written_by cs y) ≡ true
        → updated to.held.requests to.held.store.words (at x) ≡ says p j c y g
    wrote-next j c y x f e h k a w = by (among c (written_by cs q)) refl
      where
        by : (b : Bool) → among c (written_by cs q) ≡ b → updated to.held.requests to.held.store.words (at x) ≡ says p j c y g
        by true v =
            let one : j ≡ i = the-writer i j c q y x here f e h k v w in
            let same : y ≡ q = some-same y q (sym f ∙ ap (slice_get p.processes) one ∙ here) in
            latest-now c x e h k v ∙ sym (λ t. says p (one t) c (same t) g)
        by false v = old (nat_eq j i) refl a
          where
            old : (b : Bool) → nat_eq j i ≡ b → (b || has j) ≡ true → updated to.held.requests to.held.store.words (at x) ≡ says p j c y g
            old true n a =
                let one = eq-is j i n in
                let same : y ≡ q = some-same y q (sym f ∙ ap (slice_get p.processes) one ∙ here) in
                true-false (sym w ∙ ap (λ y. among c (written_by cs y)) same ∙ v)
            old false n a =
                let u = r.unwritten c x e h v in
                u.1 to.held.store.words ∙ updated-at ph.held.requests to.held.store.words ph.held.store.words (at x) u.0 ∙ done.wrote j c y x f e h k a w

    pub done-next : Done has' to
    done-next = record { middle = middle-next; turned = turned-next; wrote = wrote-next }

  -- where a process is then
  abbrev placed : ℕ → Process → Bool → Option Place
  placed i q b = unwrap_or (if b && q.is_thread then option_map (λ l. l.place) (turn p i q g) else None) (g.place i)

  -- what those that have run leave when the requests take effect
  pub tied-after : (b : ℕ → ℕ) (has : ℕ → Bool) (takes : Taking) → ((i : ℕ) (q : Process) → slice_get p.processes i ≡ Some q → takes i q ≡ has i) → (ph : Phase) → Done has ph → Tied home p (update b (design_of home p) ph) (acted p takes g)
  tied-after b has takes agrees ph done = record {
    fits = λ c x e h. fit-by c x e h (wrote-or-left p takes g c);
    proper = λ c x e h. proper c x e (two-sorts x.sort h);
    words = λ c x e k. word-by c x e k (wrote-or-left p takes g c);
    constants = λ c x w e k.
        quiet has ph c x done.middle e (constant-held p c w x e k) (λ j z a f h. true-false (sym (flat-has (written_by cs) c p.processes j z f h) ∙ constant-unwritten home p resolved obeys (RanOf has) s g tied c w k)) ∙ tied.constants c x w e k;
    places = λ i q place e t k. subst (λ o. StandsAt home p i q o (ph.frames i)) k (stands i q e t);
    begins = λ i q e t k. subst (λ o. StandsAt home p i q o (ph.frames i)) k (stands i q e t);
  }
    where
      word-by : (c : ℕ) (x : program.Cell) → slice_get cs c ≡ Some x → holds_word p c ≡ true → ((Wrote p takes g c) ⊎ (Stays p takes g c)) → updated ph.held.requests ph.held.store.words (at x) ≡ (acted p takes g).word c
      word-by c x e k (inl w) = done.wrote w.0 c w.1 x w.2 e (word-is-held p c x e k) k (sym (agrees w.0 w.1 w.2) ∙ w.3) w.4 ∙ sym w.5
      word-by c x e k (inr n) = quiet has ph c x done.middle e (word-is-held p c x e k) (λ j y a f w. n.0 j y f (agrees j y f ∙ a) w) ∙ tied.words c x e k ∙ sym n.1

      fit-by : (c : ℕ) (x : program.Cell) → slice_get cs c ≡ Some x → is_held x.sort ≡ true → ((Wrote p takes g c) ⊎ (Stays p takes g c)) → (acted p takes g).word c < 2 ^ width_of x.kind
      fit-by c x e h (inr n) = subst (λ m. m < 2 ^ width_of x.kind) (sym n.1) (tied.fits c x e h)
      fit-by c x e h (inl w) =
          let t = done.turned w.0 w.1 w.2 (sym (agrees w.0 w.1 w.2) ∙ w.3) in
          subst (λ m. m < 2 ^ width_of x.kind) (sym (w.5 ∙ ap (λ o. unwrap_or (option_map (λ l. latest l.acting c) o) (g.word c)) t.1)) (latest-fits t.0 t.2 (t.0.acting.asked c) refl)
        where
          latest-fits : (l : Left) → FitWords cs l.acting → (o : Option ℕ) → l.acting.asked c ≡ o → latest l.acting c < 2 ^ width_of x.kind
          latest-fits l f None a = subst (λ n. n < 2 ^ width_of x.kind) (sym (ap (λ o. unwrap_or o (l.acting.now c)) a)) (f.fits c x e h)
          latest-fits l f (Some v) a = subst (λ n. n < 2 ^ width_of x.kind) (sym (ap (λ o. unwrap_or o (l.acting.now c)) a)) (f.asked c x v e h a)

      proper : (c : ℕ) (x : program.Cell) → slice_get cs c ≡ Some x → ((is_root x.sort ≡ true) ⊎ (is_number x.sort ≡ true)) → updated ph.held.requests ph.held.store.words (at x) < 2 ^ width_of x.kind
      proper c x e (inl o) = done.middle.fit_asked c x ph.held.store.words e o (subst (λ n. n < 2 ^ width_of x.kind) (sym (done.middle.roots c x e o)) (tied.proper c x e (root-held x.sort o)))
      proper c x e (inr n) = subst (λ m. m < 2 ^ width_of x.kind) (sym (done.middle.unasked c x ph.held.store.words e n)) (done.middle.fit c x e n)

      placed-is : (i : ℕ) (q : Process) → slice_get p.processes i ≡ Some q → place_from p takes g i ≡ placed i q (takes i q)
      placed-is i q e = ap (λ o. unwrap_or (option_and_then (λ q. if takes i q && q.is_thread then option_map (λ l. l.place) (turn p i q g) else None) o) (g.place i)) e

      stands : (i : ℕ) (q : Process) → slice_get p.processes i ≡ Some q → q.is_thread ≡ true → StandsAt home p i q (place_from p takes g i) (ph.frames i)
      stands i q e t = subst (λ o. StandsAt home p i q o (ph.frames i)) (sym (placed-is i q e)) (by (takes i q) refl)
        where
          by : (b : Bool) → takes i q ≡ b → StandsAt home p i q (placed i q b) (ph.frames i)
          by true a =
              let z = done.turned i q e (sym (agrees i q e) ∙ a) in
              subst (λ o. StandsAt home p i q o (ph.frames i)) (sym (ap (λ b. unwrap_or (if b then option_map (λ l. l.place) (turn p i q g) else None) (g.place i)) t ∙ ap (λ o. unwrap_or (option_map (λ l. l.place) o) (g.place i)) z.1)) (z.3 t)
          by false a =
              subst (StandsAt home p i q (g.place i)) (sym (done.middle.frames i q e (λ h. true-false (sym h ∙ sym (agrees i q e) ∙ a))))
              (stands-now home p resolved obeys bounds does tracks (RanOf has) s g tied i q e t (g.place i) refl)
