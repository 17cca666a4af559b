-- A phase of the design is one of the registers: from tied states it goes well, and ends in tied states.
use Rattle.std.proofs.Common.{◌≡◌, ℕ, zero, suc, ◌+◌, ◌<◌, ◌^◌, add-one, Bool, true, false, not, ◌&&◌, ◌||◌, nat_eq, List, [], ◌∷◌, length, Option, Some, None, refl, sym, ap, ◌∙◌, subst, arith, if◌then◌else◌, slice_get, is_some, ◌⊎◌, inl, inr}
use Rattle.std.specs.Prelude.{option_map, option_and_then, unwrap_or}
use Rattle.scc_bits_kinds.specs.Kinds.{width_of}
use Rattle.scc_semantics.specs.Location.{Location, same}
use Rattle.scc_semantics.specs.Store.{Request, changed, updated}
use Rattle.scc_semantics.specs.Design as running
use Rattle.scc_semantics.specs.Process.{State, Phase, Well, and_then, resume, resume_all, update, phase}
use Rattle.scc_core_spec.specs.Program as program
use Rattle.scc_core_spec.specs.Program.{Program, Process, Sort, Input, Output, Signal, Variable, Local, Pointer, Port, is_root, is_variable, is_local, is_number, is_held}
use Rattle.scc_core_spec.specs.Static.{Cells}
use Rattle.scc_core_spec.specs.Uses.{has_sort, among}
use Rattle.scc_core_spec.specs.Kept.{written_by, is_own, is_kept, is_local_of}
use Rattle.scc_core_spec.specs.Constants.{written, constant_if}
use Rattle.scc_core_spec.specs.Source.{Home, cell_location, processes_from}
use Rattle.scc_blocks_spec.specs.Acting.{latest}
use Rattle.scc_blocks_spec.specs.Effect.{Place}
use Rattle.scc_blocks_spec.specs.Names.{keeps, kept_from, is_register, holds_word}
use Rattle.scc_blocks_spec.specs.Turns.{Regs, Taking, Left, constant_at, lasts, found, turn, taken_from, place_from, acted}
use Rattle.scc_blocks_spec.specs.Tied.{Tied}
use Rattle.scc_core_effect_laws.specs.Follows.{IsSoundCore, Obeys, Does, Tracks, StandsAt, design_of}
use Rattle.scc_core_effect_laws.proofs.Names.{and-first, and-second, or-left, or-right, some-same, none-some, true-false}
use Rattle.scc_core_effect_laws.proofs.Unsure.{flat-has, is-false, has-sort, number-no-root}
use Rattle.scc_core_laws.proofs.Found.{HaveRun, Untaken, Middle, keeper, constant-unwritten, constant-held, root-held, number-held, local-is}
use Rattle.scc_core_laws.proofs.Resumes.{source_process, Resumed, resumes, stands-now}

-- what a location has after requests depends on what it had
pub updated-at : (rs : List Request) (w v : Location → ℕ) (l : Location) → w l ≡ v l → updated rs w l ≡ updated rs v l
updated-at [] w v l e = e
updated-at (r ∷ rs) w v l e = updated-at rs (changed r.root r.word w) (changed r.root r.word v) l (by (same r.root l))
  where
    by : (b : Bool) → (if b then r.word else w l) ≡ (if b then r.word else v l)
    by true = refl
    by false = e

kept-from-is : (cs : Cells) (n : ℕ) (qs : List Process) (c : ℕ) → kept_from cs n qs c ≡ true → (j : ℕ) × (q : Process) × (slice_get qs j ≡ Some q) × (keeps cs (n + j) q c ≡ true)
kept-from-is cs n [] c e = true-false (sym e)
kept-from-is cs n (q ∷ qs) c e = by (keeps cs n q c) refl e (λ h. kept-from-is cs (suc n) qs c h)
  where
    by : (b : Bool) → keeps cs n q c ≡ b → (b || kept_from cs (suc n) qs c) ≡ true → (kept_from cs (suc n) qs c ≡ true → (j : ℕ) × (r : Process) × (slice_get qs j ≡ Some r) × (keeps cs (suc n + j) r c ≡ true))
        → (j : ℕ) × (r : Process) × (slice_get (q ∷ qs) j ≡ Some r) × (keeps cs (n + j) r c ≡ true)
    by true k h more = (zero, q, refl, ap (λ m. keeps cs m q c) from ∙ k)
      where
        from : n + 0 ≡ n
        from = omega arith
    by false k h more = let m = more h in (suc m.0, m.1, m.2, ap (λ z. keeps cs z m.1 c) (from m.0) ∙ m.3)
      where
        from : (j : ℕ) → n + suc j ≡ suc n + j
        from j = omega arith

or-goes : {A : Type 0} (a b : Bool) → (a || b) ≡ true → (a ≡ true → A) → (b ≡ true → A) → A
or-goes true b e f g = f refl
or-goes false b e f g = g e

-- what is kept is a root, a variable or a local
keeps-held : (cs : Cells) (i : ℕ) (q : Process) (c : ℕ) (x : program.Cell) → slice_get cs c ≡ Some x → keeps cs i q c ≡ true → is_held x.sort ≡ true
keeps-held cs i q c x e k =
    or-goes (has_sort is_root cs c && among c (written_by cs q)) (if q.is_thread then is_kept cs i q c else has_sort is_variable cs c && among c (written_by cs q)) (and-second (is_some q.edge) _ k)
    (λ h. root-held x.sort (sym (has-sort is_root cs c x e) ∙ and-first _ _ h)) (by q.is_thread)
  where
    variable : (has_sort is_variable cs c && among c (written_by cs q)) ≡ true → is_held x.sort ≡ true
    variable h = or-right _ _ (or-left _ _ (sym (has-sort is_variable cs c x e) ∙ and-first _ _ h))

    by : (b : Bool) → (if b then is_kept cs i q c else has_sort is_variable cs c && among c (written_by cs q)) ≡ true → is_held x.sort ≡ true
    by true h =
        or-goes (has_sort (is_local_of i) cs c) (has_sort is_variable cs c && among c (written_by cs q)) (and-first (is_own cs i q c) _ h)
        (λ l. or-right _ _ (or-right _ _ (local-is i x.sort (sym (has-sort (is_local_of i) cs c x e) ∙ l)))) variable
    by false h = variable h

pub word-is-held : (p : Program) (c : ℕ) (x : program.Cell) → slice_get p.cells c ≡ Some x → holds_word p c ≡ true → is_held x.sort ≡ true
word-is-held p c x e k = by-root (has_sort is_root p.cells c) refl k
  where
    by-root : (b : Bool) → has_sort is_root p.cells c ≡ b → (b || is_register p c) ≡ true → is_held x.sort ≡ true
    by-root true h k = root-held x.sort (sym (has-sort is_root p.cells c x e) ∙ h)
    by-root false h k = let z = kept-from-is p.cells 0 p.processes c k in keeps-held p.cells (0 + z.0) z.1 c x e z.3

module _ (home : Home) (p : Program) (resolved : IsSoundCore home p) (obeys : Obeys p) (bounds : ℕ → ℕ) (does : Does home p bounds) (tracks : Tracks home p bounds)
    (takes : Taking) (test : running.Process → Bool) (tests : (i : ℕ) (q : Process) → slice_get p.processes i ≡ Some q → test (source_process home p i q) ≡ takes i q) (s : State) (g : Regs) (tied : Tied home p s g) where
  abbrev cs : Cells
  cs = p.cells

  abbrev at : program.Cell → Location
  at x = cell_location home p x

  -- those that take part and stand before this one
  abbrev Before : ℕ → HaveRun
  Before i j r = (j < i) × (takes j r ≡ true)

  abbrev Un : ℕ → ℕ → Type 0
  Un i = Untaken home p resolved obeys (Before i) s g tied

  abbrev Mid : ℕ → Phase → Type 0
  Mid i = Middle home p resolved obeys (Before i) s g tied

  abbrev Res : ℕ → Process → Phase → Phase → Left → Type 0
  Res i = Resumed home p resolved obeys bounds does tracks (Before i) s g tied i

  not-yet : (i : ℕ) (q : Process) → Before i i q → ⊥
  not-yet i q b = absurd (let n = b.0 in grind (arith, n))

  pub held-two : (s : Sort) → is_held s ≡ true → (is_root s ≡ true) ⊎ (is_number s ≡ true)
  held-two s e = by (is_root s) e
    where
      by : (b : Bool) → (b || is_number s) ≡ true → (b ≡ true) ⊎ (is_number s ≡ true)
      by true e = inl refl
      by false e = inr e

  -- of a number that holds a word, who writes it keeps it
  pub keeps-it : (i c : ℕ) (q : Process) (x : program.Cell) → slice_get p.processes i ≡ Some q → slice_get cs c ≡ Some x → is_number x.sort ≡ true → holds_word p c ≡ true → among c (written_by cs q) ≡ true → keeps cs i q c ≡ true
  keeps-it i c q x here e n h w =
      let k = kept-from-is cs 0 p.processes c (register (has_sort is_root cs c) (has-sort is_root cs c x e ∙ number-no-root x.sort n) h) in
      let k' : keeps cs k.0 k.1 c ≡ true = ap (λ m. keeps cs m k.1 c) (from k.0) ∙ k.3 in
      let one : i ≡ k.0 = keeper home p resolved obeys (Before i) s g tied k.0 i c k.1 q k.2 here (has-sort is_number cs c x e ∙ n) k' w in
      let equal : q ≡ k.1 = some-same q k.1 (sym here ∙ ap (slice_get p.processes) one ∙ k.2) in
      (λ j. keeps cs (one j) (equal j) c) ∙ k'
    where
      register : (b : Bool) → b ≡ false → (b || is_register p c) ≡ true → is_register p c ≡ true
      register true f h = true-false f
      register false f h = h

      from : (j : ℕ) → j ≡ 0 + j
      from j = omega arith

  pub only-writer : (i j c : ℕ) (q r : Process) (x : program.Cell) → slice_get p.processes i ≡ Some q → slice_get p.processes j ≡ Some r → slice_get cs c ≡ Some x → is_held x.sort ≡ true → holds_word p c ≡ true
      → among c (written_by cs q) ≡ true → among c (written_by cs r) ≡ true → j ≡ i
  only-writer i j c q r x e f m h k w v = by (held-two x.sort h)
    where
      by : ((is_root x.sort ≡ true) ⊎ (is_number x.sort ≡ true)) → j ≡ i
      by (inl root) = obeys.writers j i c r q f e (has-sort is_root cs c x m ∙ root) v w
      by (inr n) = keeper home p resolved obeys (Before i) s g tied i j c q r e f (has-sort is_number cs c x m ∙ n) (keeps-it i c q x e m n k w) v

  -- nothing was written there yet
  quiet : (i : ℕ) (ph : Phase) (c : ℕ) (x : program.Cell) → Mid i ph → slice_get cs c ≡ Some x → is_held x.sort ≡ true → Un i c → updated ph.held.requests ph.held.store.words (at x) ≡ s.store.words (at x)
  quiet i ph c x m e h u = by (held-two x.sort h)
    where
      by : ((is_root x.sort ≡ true) ⊎ (is_number x.sort ≡ true)) → updated ph.held.requests ph.held.store.words (at x) ≡ s.store.words (at x)
      by (inl r) = m.asked c x ph.held.store.words e r u ∙ m.roots c x e r
      by (inr n) = m.unasked c x ph.held.store.words e n ∙ m.numbers c x e n u

  next-idle : (i : ℕ) (q : Process) (ph : Phase) → slice_get p.processes i ≡ Some q → takes i q ≡ false → Mid i ph → Mid (suc i) ph
  next-idle i q ph here t m = record {
    numbers = λ c x e n u. m.numbers c x e n (less c u);
    roots = m.roots;
    asked = λ c x w e r u. m.asked c x w e r (less c u);
    unasked = m.unasked;
    fit = m.fit;
    fit_asked = m.fit_asked;
    frames = λ j r e n. m.frames j r e (λ b. n (step j r b));
  }
    where
      step : (j : ℕ) (r : Process) → Before i j r → Before (suc i) j r
      step j r b = let l = b.0 in (omega (arith, l), b.1)

      less : (c : ℕ) → Un (suc i) c → Un i c
      less c u j r b f w = u j r (step j r b) f w

  next-taken : (i : ℕ) (q : Process) (ph to : Phase) (l : Left) → slice_get p.processes i ≡ Some q → takes i q ≡ true → Mid i ph → Res i q ph to l → Mid (suc i) to
  next-taken i q ph to l here t m r = record {
    numbers = λ c x e n u. (r.unwritten c x e (number-held x.sort n) (free c u)).0 ∙ m.numbers c x e n (less c u);
    roots = λ c x e o. r.roots c x e o ∙ m.roots c x e o;
    asked = λ c x w e o u. (r.unwritten c x e (root-held x.sort o) (free c u)).1 w ∙ m.asked c x w e o (less c u);
    unasked = λ c x w e n. r.unasked c x w e n ∙ m.unasked c x w e n;
    fit = r.number_fits;
    fit_asked = λ c x w e o f. asked-fits c x w e o f (l.acting.asked c) refl;
    frames = λ j y e n. r.frames j (apart j y e n) ∙ m.frames j y e (λ b. n (step j y b));
  }
    where
      step : (j : ℕ) (r : Process) → Before i j r → Before (suc i) j r
      step j r b = let l = b.0 in (omega (arith, l), b.1)

      less : (c : ℕ) → Un (suc i) c → Un i c
      less c u j r b f w = u j r (step j r b) f w

      free : (c : ℕ) → Un (suc i) c → among c (written_by cs q) ≡ false
      free c u = is-false _ (λ w. u i q (omega arith, t) here w)

      equal : (j : ℕ) → nat_eq i j ≡ true → i ≡ j
      equal j h = grind arith

      apart : (j : ℕ) (y : Process) → slice_get p.processes j ≡ Some y → (Before (suc i) j y → ⊥) → nat_eq i j ≡ false
      apart j y e n = is-false _ (λ h.
          let one = equal j h in
          let same : q ≡ y = some-same q y (sym here ∙ ap (slice_get p.processes) one ∙ e) in
          n (omega (arith, one), (λ k. takes (sym one k) (sym same k)) ∙ t))

      asked-fits : (c : ℕ) (x : program.Cell) (w : Location → ℕ) → slice_get cs c ≡ Some x → is_root x.sort ≡ true → w (at x) < 2 ^ width_of x.kind → (o : Option ℕ) → l.acting.asked c ≡ o → updated to.held.requests w (at x) < 2 ^ width_of x.kind
      asked-fits c x w e o f None a = subst (λ n. n < 2 ^ width_of x.kind) (sym (r.asked c x w e o ∙ ap (λ z. unwrap_or z (updated ph.held.requests w (at x))) a)) (m.fit_asked c x w e o f)
      asked-fits c x w e o f (Some v) a = subst (λ n. n < 2 ^ width_of x.kind) (sym (r.asked c x w e o ∙ ap (λ z. unwrap_or z (updated ph.held.requests w (at x))) a)) (r.fit.asked c x v e (root-held x.sort o) a)

  -- where a process is then
  abbrev placed : ℕ → Process → Option Place
  placed j q = unwrap_or (if takes j q && q.is_thread then option_map (λ l. l.place) (turn p j q g) else None) (g.place j)

  abbrev Free : ℕ → List Process → ℕ → Type 0
  Free i qs c = (k : ℕ) (r : Process) → slice_get qs k ≡ Some r → takes (i + k) r ≡ true → among c (written_by cs r) ≡ true → ⊥

  pub record Ran (i : ℕ) (qs : List Process) (ph to : Phase) : Type 0 where
    pub goes : resume_all bounds (design_of home p) s.store.words test i (processes_from home p i qs) ph ≡ Well to
    pub last : Mid (i + length qs) to
    pub untaken : (c : ℕ) (x : program.Cell) → slice_get cs c ≡ Some x → is_held x.sort ≡ true → Free i qs c
        → (to.held.store.words (at x) ≡ ph.held.store.words (at x)) × ((w : Location → ℕ) → updated to.held.requests w (at x) ≡ updated ph.held.requests w (at x))
    pub taken : (c : ℕ) (x : program.Cell) → slice_get cs c ≡ Some x → is_held x.sort ≡ true → holds_word p c ≡ true → Un i c → updated to.held.requests to.held.store.words (at x) ≡ taken_from p takes g i qs c
    pub fits : (c : ℕ) (x : program.Cell) → slice_get cs c ≡ Some x → is_held x.sort ≡ true → taken_from p takes g i qs c < 2 ^ width_of x.kind
    pub others : (j : ℕ) → j < i → to.frames j ≡ ph.frames j
    pub stands : (k : ℕ) (q : Process) → slice_get qs k ≡ Some q → q.is_thread ≡ true → StandsAt home p (i + k) q (placed (i + k) q) (to.frames (i + k))

  abbrev Suffix : ℕ → List Process → Type 0
  Suffix i qs = (k : ℕ) → slice_get p.processes (i + k) ≡ slice_get qs k

  ran-none : (i : ℕ) (ph : Phase) → Mid i ph → Ran i [] ph ph
  ran-none i ph m = record {
    goes = refl;
    last = subst (λ n. Mid n ph) from m;
    untaken = λ c x e h f. (refl, λ w. refl);
    taken = λ c x e h k u. quiet i ph c x m e h u ∙ tied.words c x e k;
    fits = λ c x e h. tied.fits c x e h;
    others = λ j l. refl;
    stands = λ k q e t. none-some q e;
  }
    where
      from : i ≡ i + 0
      from = omega arith

  abbrev Stand : ℕ → Process → Phase → Type 0
  Stand n r to = StandsAt home p n r (placed n r) (to.frames n)

  ran-idle : (q : Process) (qs : List Process) (i : ℕ) (ph to : Phase) → slice_get p.processes i ≡ Some q → takes i q ≡ false → Mid i ph → Ran (suc i) qs ph to → Ran i (q ∷ qs) ph to
  ran-idle q qs i ph to here t m r = record {
    goes =
        ap (λ b. and_then (if b then resume bounds (design_of home p) s.store.words i (source_process home p i q) ph else Well ph) (resume_all bounds (design_of home p) s.store.words test (i + 1) (processes_from home p (suc i) qs)))
        (tests i q here ∙ t) ∙ ap (λ n. resume_all bounds (design_of home p) s.store.words test n (processes_from home p (suc i) qs) ph) (add-one i) ∙ r.goes;
    last = subst (λ n. Mid n to) longer r.last;
    untaken = λ c x e h f. r.untaken c x e h (later c f);
    taken = λ c x e h k u. r.taken c x e h k (more c u) ∙ sym (ap (λ b. if b && among c (written_by cs q) then wrote c else taken_from p takes g (suc i) qs c) t);
    fits = λ c x e h. subst (λ n. n < 2 ^ width_of x.kind) (sym (ap (λ b. if b && among c (written_by cs q) then wrote c else taken_from p takes g (suc i) qs c) t)) (r.fits c x e h);
    others = λ j l. r.others j (omega (arith, l));
    stands = by;
  }
    where
      longer : suc i + length qs ≡ i + length (q ∷ qs)
      longer = omega arith

      wrote : ℕ → ℕ
      wrote c = unwrap_or (option_map (λ l. latest l.acting c) (turn p i q g)) (g.word c)

      later : (c : ℕ) → Free i (q ∷ qs) c → Free (suc i) qs c
      later c f k z e u w = f (suc k) z e (ap (λ n. takes n z) from ∙ u) w
        where
          from : i + suc k ≡ suc i + k
          from = omega arith

      more : (c : ℕ) → Un i c → Un (suc i) c
      more c u j z h f w = cases (nat_eq j i) refl
        where
          cases : (b : Bool) → nat_eq j i ≡ b → ⊥
          cases false n = let l = h.0 in u j z (grind (arith, n, l), h.1) f w
          cases true n =
              let same : j ≡ i = grind (arith, n) in
              let equal : z ≡ q = some-same z q (sym f ∙ ap (slice_get p.processes) same ∙ here) in
              true-false (sym h.1 ∙ (λ k. takes (same k) (equal k)) ∙ t)

      head : q.is_thread ≡ true → Stand i q to
      head h =
          subst (StandsAt home p i q (placed i q)) (sym (r.others i (omega arith) ∙ m.frames i q here (not-yet i q)))
          (subst (λ o. StandsAt home p i q o (s.frames i)) (sym (ap (λ b. unwrap_or (if b && q.is_thread then option_map (λ l. l.place) (turn p i q g) else None) (g.place i)) t))
          (stands-now home p resolved obeys bounds does tracks (Before i) s g tied i q here h (g.place i) refl))

      by : (k : ℕ) (z : Process) → slice_get (q ∷ qs) k ≡ Some z → z.is_thread ≡ true → Stand (i + k) z to
      by zero z e h = let same = some-same q z e in subst (λ n. Stand n z to) from (subst (λ z. Stand i z to) same (head (ap (λ z. z.is_thread) same ∙ h)))
        where
          from : i ≡ i + 0
          from = omega arith
      by (suc k) z e h = subst (λ n. Stand n z to) from (r.stands k z e h)
        where
          from : suc i + k ≡ i + suc k
          from = omega arith

  ran-taken : (q : Process) (qs : List Process) (i : ℕ) (ph mid to : Phase) (l : Left) → slice_get p.processes i ≡ Some q → Suffix (suc i) qs → takes i q ≡ true → Mid i ph
      → resume bounds (design_of home p) s.store.words i (source_process home p i q) ph ≡ Well mid → Res i q ph mid l → Ran (suc i) qs mid to → Ran i (q ∷ qs) ph to
  ran-taken q qs i ph mid to l here suffix t m goes z r = record {
    goes =
        ap (λ b. and_then (if b then resume bounds (design_of home p) s.store.words i (source_process home p i q) ph else Well ph) (resume_all bounds (design_of home p) s.store.words test (i + 1) (processes_from home p (suc i) qs)))
        (tests i q here ∙ t) ∙ ap (λ o. and_then o (resume_all bounds (design_of home p) s.store.words test (i + 1) (processes_from home p (suc i) qs))) goes
        ∙ ap (λ n. resume_all bounds (design_of home p) s.store.words test n (processes_from home p (suc i) qs) mid) (add-one i) ∙ r.goes;
    last = subst (λ n. Mid n to) longer r.last;
    untaken = λ c x e h f. let a = r.untaken c x e h (later c f) in let b = z.unwritten c x e h (free c f) in (a.0 ∙ b.0, λ w. a.1 w ∙ b.1 w);
    taken = λ c x e h k u. written-or c x e h k u (among c (written_by cs q)) refl;
    fits = λ c x e h. fit-or c x e h (among c (written_by cs q)) refl;
    others = λ j h. r.others j (omega (arith, h)) ∙ z.frames j (apart j h);
    stands = by;
  }
    where
      longer : suc i + length qs ≡ i + length (q ∷ qs)
      longer = omega arith

      apart : (j : ℕ) → j < i → nat_eq i j ≡ false
      apart j h = grind (arith, h)

      wrote : ℕ → ℕ
      wrote c = unwrap_or (option_map (λ l. latest l.acting c) (turn p i q g)) (g.word c)

      wrote-is : (c : ℕ) → wrote c ≡ latest l.acting c
      wrote-is c = ap (λ o. unwrap_or (option_map (λ l. latest l.acting c) o) (g.word c)) z.turned

      chosen : (c : ℕ) (b : Bool) → among c (written_by cs q) ≡ b → taken_from p takes g i (q ∷ qs) c ≡ (if b then wrote c else taken_from p takes g (suc i) qs c)
      chosen c b w = λ k. if t k && w k then wrote c else taken_from p takes g (suc i) qs c

      later : (c : ℕ) → Free i (q ∷ qs) c → Free (suc i) qs c
      later c f k y e u w = f (suc k) y e (ap (λ n. takes n y) from ∙ u) w
        where
          from : i + suc k ≡ suc i + k
          from = omega arith

      free : (c : ℕ) → Free i (q ∷ qs) c → among c (written_by cs q) ≡ false
      free c f = is-false _ (λ w. f 0 q refl (ap (λ n. takes n q) from ∙ t) w)
        where
          from : i + 0 ≡ i
          from = omega arith

      -- the one writer of the cell
      alone : (c : ℕ) (x : program.Cell) → slice_get cs c ≡ Some x → is_held x.sort ≡ true → holds_word p c ≡ true → among c (written_by cs q) ≡ true → Free (suc i) qs c
      alone c x e h k w n y f u v = absurd (let one = only-writer i (suc i + n) c q y x here (suffix n ∙ f) e h k w v in grind (arith, one))

      latest-there : (c : ℕ) (x : program.Cell) → slice_get cs c ≡ Some x → ((is_root x.sort ≡ true) ⊎ (is_number x.sort ≡ true)) → holds_word p c ≡ true → Un i c → among c (written_by cs q) ≡ true
          → updated mid.held.requests mid.held.store.words (at x) ≡ latest l.acting c
      latest-there c x e (inr n) k u w =
          z.unasked c x mid.held.store.words e n ∙ m.unasked c x mid.held.store.words e n
          ∙ z.numbers c x e n (not-unsure (has_sort is_number cs c) (is_some (constant_at p c)) (keeps cs i q c) (keeps-it i c q x here e n k w))
        where
          not-unsure : (a b c : Bool) → c ≡ true → (a && (not b && not c)) ≡ false
          not-unsure true true c h = refl
          not-unsure true false true h = refl
          not-unsure true false false h = true-false (sym h)
          not-unsure false b c h = refl
      latest-there c x e (inl o) k u w =
          z.asked c x mid.held.store.words e o
          ∙ ap (unwrap_or (l.acting.asked c)) (m.asked c x mid.held.store.words e o u ∙ z.roots c x e o ∙ m.roots c x e o ∙ tied.words c x e k ∙ sym (z.root_now c root ∙ found-now))
        where
          root : has_sort is_root cs c ≡ true
          root = has-sort is_root cs c x e ∙ o

          no-constant : constant_at p c ≡ None
          no-constant = ap (option_and_then (λ x. constant_if (among c (written p)) x.sort)) e ∙ ap (λ b. constant_if b x.sort) (flat-has (written_by cs) c p.processes i q here w)

          found-now : (found p i q g).now c ≡ g.word c
          found-now = ap (λ o. unwrap_or o (if lasts cs i q c then g.word c else 0)) no-constant ∙ ap (λ b. if b then g.word c else 0) (or-left (has_sort is_root cs c) _ root)

      written-or : (c : ℕ) (x : program.Cell) → slice_get cs c ≡ Some x → is_held x.sort ≡ true → holds_word p c ≡ true → Un i c → (b : Bool) → among c (written_by cs q) ≡ b
          → updated to.held.requests to.held.store.words (at x) ≡ taken_from p takes g i (q ∷ qs) c
      written-or c x e h k u true w =
          let a = r.untaken c x e h (alone c x e h k w) in
          a.1 to.held.store.words ∙ updated-at mid.held.requests to.held.store.words mid.held.store.words (at x) a.0
          ∙ latest-there c x e (held-two x.sort h) k u w ∙ sym (wrote-is c) ∙ sym (chosen c true w)
      written-or c x e h k u false w = r.taken c x e h k more ∙ sym (chosen c false w)
        where
          more : Un (suc i) c
          more j y b f d = cases (nat_eq j i) refl
            where
              cases : (z : Bool) → nat_eq j i ≡ z → ⊥
              cases false n = let l = b.0 in u j y (grind (arith, n, l), b.1) f d
              cases true n =
                  let same : j ≡ i = grind (arith, n) in
                  let equal : y ≡ q = some-same y q (sym f ∙ ap (slice_get p.processes) same ∙ here) in
                  true-false (sym d ∙ ap (λ y. among c (written_by cs y)) equal ∙ w)

      fit-or : (c : ℕ) (x : program.Cell) → slice_get cs c ≡ Some x → is_held x.sort ≡ true → (b : Bool) → among c (written_by cs q) ≡ b → taken_from p takes g i (q ∷ qs) c < 2 ^ width_of x.kind
      fit-or c x e h true w = subst (λ n. n < 2 ^ width_of x.kind) (sym (chosen c true w ∙ wrote-is c)) (latest-fits (l.acting.asked c) refl)
        where
          latest-fits : (o : Option ℕ) → l.acting.asked c ≡ o → latest l.acting c < 2 ^ width_of x.kind
          latest-fits None a = subst (λ n. n < 2 ^ width_of x.kind) (sym (ap (λ o. unwrap_or o (l.acting.now c)) a)) (z.fit.fits c x e h)
          latest-fits (Some v) a = subst (λ n. n < 2 ^ width_of x.kind) (sym (ap (λ o. unwrap_or o (l.acting.now c)) a)) (z.fit.asked c x v e h a)
      fit-or c x e h false w = subst (λ n. n < 2 ^ width_of x.kind) (sym (chosen c false w)) (r.fits c x e h)

      head : q.is_thread ≡ true → Stand i q to
      head h =
          subst (StandsAt home p i q (placed i q)) (sym (r.others i (omega arith)))
          (subst (λ o. StandsAt home p i q o (mid.frames i)) (sym ((λ k. unwrap_or (if t k && h k then option_map (λ l. l.place) (turn p i q g) else None) (g.place i)) ∙ ap (λ o. unwrap_or (option_map (λ l. l.place) o) (g.place i)) z.turned))
          (z.stands h))

      by : (k : ℕ) (y : Process) → slice_get (q ∷ qs) k ≡ Some y → y.is_thread ≡ true → Stand (i + k) y to
      by zero y e h = let same = some-same q y e in subst (λ n. Stand n y to) from (subst (λ y. Stand i y to) same (head (ap (λ y. y.is_thread) same ∙ h)))
        where
          from : i ≡ i + 0
          from = omega arith
      by (suc k) y e h = subst (λ n. Stand n y to) from (r.stands k y e h)
        where
          from : suc i + k ≡ i + suc k
          from = omega arith

  pub runs-all : (qs : List Process) (i : ℕ) (ph : Phase) → Suffix i qs → Mid i ph → (to : Phase) × Ran i qs ph to
  runs-all [] i ph suffix m = (ph, ran-none i ph m)
  runs-all (q ∷ qs) i ph suffix m = by (takes i q) refl (λ ph k. runs-all qs (suc i) ph after k)
    where
      here : slice_get p.processes i ≡ Some q
      here = ap (slice_get p.processes) from ∙ suffix 0
        where
          from : i ≡ i + 0
          from = omega arith

      after : Suffix (suc i) qs
      after k = ap (slice_get p.processes) from ∙ suffix (suc k)
        where
          from : suc i + k ≡ i + suc k
          from = omega arith

      by : (b : Bool) → takes i q ≡ b → ((ph : Phase) → Mid (suc i) ph → (to : Phase) × Ran (suc i) qs ph to) → (to : Phase) × Ran i (q ∷ qs) ph to
      by false t go = let r = go ph (next-idle i q ph here t m) in (r.0, ran-idle q qs i ph r.0 here t m r.1)
      by true t go =
          let z = resumes home p resolved obeys bounds does tracks (Before i) s g tied i q here ph m (λ e b. not-yet i q b) in
          let r = go z.to (next-taken i q ph z.to z.left here t m z.resumed) in
          (r.0, ran-taken q qs i ph z.to r.0 z.left here after t m z.goes z.resumed r.1)

  first : Phase
  first = record { held = record { store = s.store; requests = [] }; frames = s.frames }

  first-middle : Mid 0 first
  unfolding first
  first-middle = record {
    numbers = λ c x e n u. refl;
    roots = λ c x e r. refl;
    asked = λ c x w e r u. refl;
    unasked = λ c x w e n. refl;
    fit = λ c x e n. tied.proper c x e (number-held x.sort n);
    fit_asked = λ c x w e r f. f;
    frames = λ j r e n. refl;
  }

  whole : Suffix 0 p.processes
  whole k = ap (slice_get p.processes) from
    where
      from : 0 + k ≡ k
      from = omega arith

  pub record Follows : Type 0 where
    pub to : State
    pub goes : phase bounds (design_of home p) test s ≡ Well to
    pub stays : Tied home p to (acted p takes g)

  pub phase-follows : Follows
  unfolding first
  phase-follows = by (runs-all p.processes 0 first whole first-middle)
    where
      placed-is : (i : ℕ) (q : Process) → slice_get p.processes i ≡ Some q → place_from p takes g i ≡ placed i q
      placed-is i q e = ap (λ o. unwrap_or (option_and_then (λ q. if takes i q && q.is_thread then option_map (λ l. l.place) (turn p i q g) else None) o) (g.place i)) e

      from : (i : ℕ) → 0 + i ≡ i
      from i = omega arith

      by : ((to : Phase) × Ran 0 p.processes first to) → Follows
      by r = record {
        to = update bounds (design_of home p) r.0;
        goes = ap (λ o. and_then o (λ t. Well (update bounds (design_of home p) t))) r.1.goes;
        stays = record {
          fits = r.1.fits;
          proper = λ c x e h. proper c x e (held-two x.sort h);
          words = λ c x e k. r.1.taken c x e (word-held c x e k) k (λ j z b. absurd (let n = b.0 in grind (arith, n)));
          constants = λ c x w e k.
              let u = r.1.untaken c x e (constant-held p c w x e k) (λ j z f t h. true-false (sym (flat-has (written_by cs) c p.processes j z f h) ∙ constant-unwritten home p resolved obeys (Before 0) s g tied c w k)) in
              u.1 r.0.held.store.words ∙ u.0 ∙ tied.constants c x w e k;
          places = λ i q place e t k. subst (λ o. StandsAt home p i q o (r.0.frames i)) k (stands i q e t);
          begins = λ i q e t k. subst (λ o. StandsAt home p i q o (r.0.frames i)) k (stands i q e t);
        };
      }
        where
          stands : (i : ℕ) (q : Process) → slice_get p.processes i ≡ Some q → q.is_thread ≡ true → StandsAt home p i q (place_from p takes g i) (r.0.frames i)
          stands i q e t = subst (λ o. StandsAt home p i q o (r.0.frames i)) (sym (placed-is i q e)) (subst (λ n. StandsAt home p n q (placed n q) (r.0.frames n)) (from i) (r.1.stands i q e t))

          proper : (c : ℕ) (x : program.Cell) → slice_get cs c ≡ Some x → ((is_root x.sort ≡ true) ⊎ (is_number x.sort ≡ true)) → updated r.0.held.requests r.0.held.store.words (at x) < 2 ^ width_of x.kind
          proper c x e (inl o) = r.1.last.fit_asked c x r.0.held.store.words e o (subst (λ n. n < 2 ^ width_of x.kind) (sym (r.1.last.roots c x e o)) (tied.proper c x e (root-held x.sort o)))
          proper c x e (inr n) = subst (λ m. m < 2 ^ width_of x.kind) (sym (r.1.last.unasked c x r.0.held.store.words e n)) (r.1.last.fit c x e n)

          word-held : (c : ℕ) (x : program.Cell) → slice_get cs c ≡ Some x → holds_word p c ≡ true → is_held x.sort ≡ true
          word-held = word-is-held p
