-- In the middle of a phase a process finds in the store what it finds in the registers, but for what it reads late.
use Rattle.std.proofs.Common.{◌≡◌, ℕ, zero, suc, ◌+◌, ◌<◌, ◌^◌, pow_pos, Bool, true, false, not, ◌&&◌, ◌||◌, List, [], ◌∷◌, Option, Some, None, refl, sym, ap, ◌∙◌, subst, arith, if◌then◌else◌, slice_get, is_some, ◌⊎◌, inl, inr}
use Rattle.std.specs.Prelude.{option_and_then, unwrap_or}
use Rattle.scc_bits_kinds.specs.Kinds.{width_of}
use Rattle.scc_semantics.specs.Location.{Location}
use Rattle.scc_semantics.specs.Store.{updated}
use Rattle.scc_semantics.specs.Process.{State, Phase}
use Rattle.scc_core_spec.specs.Program as program
use Rattle.scc_core_spec.specs.Program.{Program, Process, Sort, Input, Output, Signal, Variable, Local, Pointer, Port, Edge, is_root, is_variable, is_local, is_number, is_held}
use Rattle.scc_core_spec.specs.Static.{Cells, fixed_word}
use Rattle.scc_core_spec.specs.Uses.{has_sort, among}
use Rattle.scc_core_spec.specs.Kept.{written_by, is_local_of, is_own, is_kept}
use Rattle.scc_core_spec.specs.Constants.{written, constant_if}
use Rattle.scc_core_spec.specs.Source.{Home, cell_location}
use Rattle.scc_blocks_spec.specs.Acting.{Acting, calm}
use Rattle.scc_blocks_spec.specs.Names.{keeps, kept_from}
use Rattle.scc_blocks_spec.specs.Turns.{Regs, constant_at, lasts, found, is_clocked}
use Rattle.scc_blocks_spec.specs.Tied.{Tied}
use Rattle.scc_core_effect_laws.specs.Sound.{FitWords}
use Rattle.scc_core_effect_laws.specs.Alike.{Both}
use Rattle.scc_core_effect_laws.specs.Follows.{IsSoundCore, Obeys, Meets}
use Rattle.scc_core_effect_laws.proofs.Names.{and-first, and-second, and-both, or-left, or-right, some-same, none-some, true-false}
use Rattle.scc_core_laws.proofs.Proper.{fixed-constant, proper-from}
use Rattle.scc_core_effect_laws.proofs.Unsure.{flat-has, is-false, is-true, sort-of, has-sort, number-no-root, unsure, written-named}

pub kept-in : (cs : Cells) (n : ℕ) (qs : List Process) (j : ℕ) (q : Process) (c : ℕ) → slice_get qs j ≡ Some q → keeps cs (n + j) q c ≡ true → kept_from cs n qs c ≡ true
kept-in cs n [] j q c e k = none-some q e
kept-in cs n (r ∷ qs) zero q c e k = or-left _ _ ((λ i. keeps cs (from i) (some-same r q e i) c) ∙ k)
  where
    from : n ≡ n + 0
    from = omega arith
kept-in cs n (r ∷ qs) (suc j) q c e k = or-right _ _ (kept-in cs (suc n) qs j q c e (ap (λ m. keeps cs m q c) from ∙ k))
  where
    from : suc n + j ≡ n + suc j
    from = omega arith

pub local-is : (i : ℕ) (s : Sort) → is_local_of i s ≡ true → is_local s ≡ true
local-is i (Local j) e = refl
local-is i Input e = e
local-is i Output e = e
local-is i Signal e = e
local-is i (Variable w f) e = e
local-is i (Pointer t) e = e
local-is i (Port r) e = e

local-one : (i j : ℕ) (s : Sort) → is_local_of i s ≡ true → is_local_of j s ≡ true → i ≡ j
local-one i j (Local k) e f = grind (arith, e, f)
local-one i j Input e f = true-false (sym e)
local-one i j Output e f = true-false (sym e)
local-one i j Signal e f = true-false (sym e)
local-one i j (Variable w g) e f = true-false (sym e)
local-one i j (Pointer t) e f = true-false (sym e)
local-one i j (Port r) e f = true-false (sym e)

held-two : (s : Sort) → is_held s ≡ true → (is_root s ≡ true) ⊎ (is_number s ≡ true)
held-two s e = by (is_root s) e
  where
    by : (b : Bool) → (b || is_number s) ≡ true → (b ≡ true) ⊎ (is_number s ≡ true)
    by true e = inl refl
    by false e = inr e

pub number-held : (s : Sort) → is_number s ≡ true → is_held s ≡ true
number-held s e = or-right _ _ e

pub root-held : (s : Sort) → is_root s ≡ true → is_held s ≡ true
root-held s e = or-left _ _ e

-- what has a constant is held
pub constant-held : (p : Program) (c w : ℕ) (x : program.Cell) → slice_get p.cells c ≡ Some x → constant_at p c ≡ Some w → is_held x.sort ≡ true
constant-held p c w x e k = by x.sort (among c (written p)) (sym (ap (option_and_then (λ x. constant_if (among c (written p)) x.sort)) e) ∙ k)
  where
    by : (s : Sort) (b : Bool) → constant_if b s ≡ Some w → is_held s ≡ true
    by (Variable v f) b h = refl
    by Signal b h = refl
    by Output b h = refl
    by s true h = none-some w h
    by Input false h = none-some w h
    by (Local j) false h = none-some w h
    by (Pointer t) false h = none-some w h
    by (Port t) false h = none-some w h

-- what a process meets: of other cells anything
abbrev pub met : Home → Program → (signals words : Location → ℕ) → ℕ → Option program.Cell → ℕ
met home p signals words other None = other
met home p signals words other (Some x) = if is_root x.sort then signals (cell_location home p x) else (if is_number x.sort then words (cell_location home p x) else other)

-- which processes have run in the phase so far
abbrev pub HaveRun : Type 1
HaveRun = ℕ → Process → Type 0

module _ (home : Home) (p : Program) (resolved : IsSoundCore home p) (obeys : Obeys p) (ran : HaveRun) (s : State) (g : Regs) (tied : Tied home p s g) where
  abbrev cs : Cells
  cs = p.cells

  abbrev pub at : program.Cell → Location
  at x = cell_location home p x

  -- no process that has run writes the cell
  abbrev pub Untaken : ℕ → Type 0
  Untaken c = (j : ℕ) (r : Process) → ran j r → slice_get p.processes j ≡ Some r → among c (written_by cs r) ≡ true → ⊥

  -- these processes have run
  pub record Middle (ph : Phase) : Type 0 where
    pub numbers : (c : ℕ) (x : program.Cell) → slice_get cs c ≡ Some x → is_number x.sort ≡ true → Untaken c → ph.held.store.words (at x) ≡ s.store.words (at x)
    pub roots : (c : ℕ) (x : program.Cell) → slice_get cs c ≡ Some x → is_root x.sort ≡ true → ph.held.store.words (at x) ≡ s.store.words (at x)
    pub asked : (c : ℕ) (x : program.Cell) (w : Location → ℕ) → slice_get cs c ≡ Some x → is_root x.sort ≡ true → Untaken c → updated ph.held.requests w (at x) ≡ w (at x)
    pub unasked : (c : ℕ) (x : program.Cell) (w : Location → ℕ) → slice_get cs c ≡ Some x → is_number x.sort ≡ true → updated ph.held.requests w (at x) ≡ w (at x)
    pub fit : (c : ℕ) (x : program.Cell) → slice_get cs c ≡ Some x → is_number x.sort ≡ true → ph.held.store.words (at x) < 2 ^ width_of x.kind
    pub fit_asked : (c : ℕ) (x : program.Cell) (w : Location → ℕ) → slice_get cs c ≡ Some x → is_root x.sort ≡ true → w (at x) < 2 ^ width_of x.kind → updated ph.held.requests w (at x) < 2 ^ width_of x.kind
    pub frames : (j : ℕ) (r : Process) → slice_get p.processes j ≡ Some r → (ran j r → ⊥) → ph.frames j ≡ s.frames j

  pub constant-unwritten : (c w : ℕ) → constant_at p c ≡ Some w → among c (written p) ≡ false
  constant-unwritten c w e = is-false _ (λ h. by (slice_get cs c) (sym (ap (λ b. option_and_then (λ x. constant_if b x.sort) (slice_get cs c)) h) ∙ e))
    where
      by : (o : Option program.Cell) → option_and_then (λ x. constant_if true x.sort) o ≡ Some w → ⊥
      by None e = none-some w e
      by (Some x) e = none-some w e

  -- who keeps a number alone writes it
  pub keeper : (i j c : ℕ) (q r : Process) → slice_get p.processes i ≡ Some q → slice_get p.processes j ≡ Some r → has_sort is_number cs c ≡ true → keeps cs i q c ≡ true → among c (written_by cs r) ≡ true → j ≡ i
  keeper i j c q r e f n k w = by (q.is_thread) refl (and-second (is_some q.edge) _ k)
    where
      x : (x : program.Cell) × (slice_get cs c ≡ Some x) × (is_number x.sort ≡ true)
      x = sort-of is_number cs c n

      no-root : has_sort is_root cs c ≡ false
      no-root = has-sort is_root cs c x.0 x.1 ∙ number-no-root x.0.sort x.2

      variable : (has_sort is_variable cs c && among c (written_by cs q)) ≡ true → j ≡ i
      variable h = obeys.shared j i c r q f e (and-first _ _ h) (written-named home p resolved obeys r c w) (and-second (has_sort is_variable cs c) _ h)

      own : (has_sort (is_local_of i) cs c || (has_sort is_variable cs c && among c (written_by cs q))) ≡ true → j ≡ i
      own h = cases (has_sort (is_local_of i) cs c) refl h
        where
          cases : (b : Bool) → has_sort (is_local_of i) cs c ≡ b → (b || (has_sort is_variable cs c && among c (written_by cs q))) ≡ true → j ≡ i
          cases false l h = variable h
          cases true l h =
              let y = sort-of (is_local_of i) cs c l in
              let mine = resolved.own_locals j c r f (has-sort is_local cs c y.0 y.1 ∙ local-is i y.0.sort y.2) (written-named home p resolved obeys r c w) in
              local-one j i y.0.sort (sym (has-sort (is_local_of j) cs c y.0 y.1) ∙ mine) y.2

      by : (b : Bool) → q.is_thread ≡ b → ((has_sort is_root cs c && among c (written_by cs q)) || (if b then is_kept cs i q c else has_sort is_variable cs c && among c (written_by cs q))) ≡ true → j ≡ i
      by true t h = own (and-first (is_own cs i q c) _ (second (has_sort is_root cs c) _ _ no-root h))
        where
          second : (a b c : Bool) → a ≡ false → ((a && b) || c) ≡ true → c ≡ true
          second true b c e h = true-false e
          second false b c e h = h
      by false t h = variable (second (has_sort is_root cs c) _ _ no-root h)
        where
          second : (a b c : Bool) → a ≡ false → ((a && b) || c) ≡ true → c ≡ true
          second true b c e h = true-false e
          second false b c e h = h

  -- a process that has an edge runs once
  module _ (i : ℕ) (q : Process) (here : slice_get p.processes i ≡ Some q) (ph : Phase) (middle : Middle ph) (anew : is_some q.edge ≡ true → ran i q → ⊥) where
    abbrev pub actual : Acting
    actual = calm (λ c. met home p s.store.words ph.held.store.words ((found p i q g).now c) (slice_get cs c))

    constant-holds : (c w : ℕ) (x : program.Cell) → slice_get cs c ≡ Some x → is_number x.sort ≡ true → constant_at p c ≡ Some w → ph.held.store.words (at x) ≡ w
    constant-holds c w x e n k =
        middle.numbers c x e n (λ j r b f h. true-false (sym (flat-has (written_by cs) c p.processes j r f h) ∙ constant-unwritten c w k)) ∙ tied.constants c x w e k

    kept-holds : (c : ℕ) (x : program.Cell) → slice_get cs c ≡ Some x → is_number x.sort ≡ true → keeps cs i q c ≡ true → ph.held.store.words (at x) ≡ g.word c
    kept-holds c x e n k =
        middle.numbers c x e n (λ j r b f h.
        let m : j ≡ i = keeper i j c q r here f (has-sort is_number cs c x e ∙ n) k h in
        let equal : r ≡ q = some-same r q (sym f ∙ ap (slice_get p.processes) m ∙ here) in
        absurd (anew (and-first (is_some q.edge) _ k) (subst (λ n. ran n q) m (subst (ran j) equal b))))
        ∙ tied.words c x e (or-right (has_sort is_root cs c) _ (kept-in cs 0 p.processes i q c here (ap (λ m. keeps cs m q c) from ∙ k)))
      where
        from : 0 + i ≡ i
        from = omega arith

    -- what a process keeps lasts
    kept-lasts : (c : ℕ) → has_sort is_root cs c ≡ false → keeps cs i q c ≡ true → lasts cs i q c ≡ true
    kept-lasts c r k = or-right _ _ (by q.is_thread (has_sort is_local cs c) refl refl (second (has_sort is_root cs c) _ _ r (and-second (is_some q.edge) _ k)))
      where
        second : (a b c : Bool) → a ≡ false → ((a && b) || c) ≡ true → c ≡ true
        second true b c e h = true-false e
        second false b c e h = h

        no-local : has_sort is_local cs c ≡ true → has_sort is_variable cs c ≡ true → ⊥
        no-local l v =
            let y = sort-of is_local cs c l in
            both y.0.sort y.2 (sym (has-sort is_variable cs c y.0 y.1) ∙ v)
          where
            both : (s : Sort) → is_local s ≡ true → is_variable s ≡ true → ⊥
            both (Local j) e f = true-false (sym f)
            both (Variable w g) e f = true-false (sym e)
            both Input e f = true-false (sym e)
            both Output e f = true-false (sym e)
            both Signal e f = true-false (sym e)
            both (Pointer t) e f = true-false (sym e)
            both (Port t) e f = true-false (sym e)

        by : (t l : Bool) → q.is_thread ≡ t → has_sort is_local cs c ≡ l → (if t then is_kept cs i q c else has_sort is_variable cs c && among c (written_by cs q)) ≡ true
            → (if l then t && is_kept cs i q c else not (among c (written_by cs q)) || (if t then is_kept cs i q c else is_clocked q.edge)) ≡ true
        by true true t l h = h
        by true false t l h = or-right _ _ h
        by false true t l h = absurd (no-local l (and-first _ _ h))
        by false false t l h = or-right _ _ (and-first (is_some q.edge) _ k)

    found-word : (c : ℕ) → (constant_at p c ≡ None) → lasts cs i q c ≡ true → (found p i q g).now c ≡ g.word c
    found-word c e l = (λ j. unwrap_or (e j) (if l j then g.word c else 0))

    same-now : (c : ℕ) → unsure p i q c ≡ false → actual.now c ≡ (found p i q g).now c
    same-now c u = by (slice_get cs c) refl
      where
        by : (o : Option program.Cell) → slice_get cs c ≡ o → met home p s.store.words ph.held.store.words ((found p i q g).now c) o ≡ (found p i q g).now c
        by None e = refl
        by (Some x) e = sorts (is_root x.sort) (is_number x.sort) refl refl (constant_at p c) refl
          where
            sorts : (a b : Bool) → is_root x.sort ≡ a → is_number x.sort ≡ b → (o : Option ℕ) → constant_at p c ≡ o
                → (if a then s.store.words (at x) else (if b then ph.held.store.words (at x) else (found p i q g).now c)) ≡ (found p i q g).now c
            sorts true b r n (Some w) k = tied.constants c x w e k ∙ sym (ap (λ o. unwrap_or o (if lasts cs i q c then g.word c else 0)) k)
            sorts true b r n None k =
                let root = has-sort is_root cs c x e ∙ r in
                tied.words c x e (or-left _ _ root) ∙ sym (found-word c k (or-left _ _ root))
            sorts false true r n (Some w) k = constant-holds c w x e n k ∙ sym (ap (λ o. unwrap_or o (if lasts cs i q c then g.word c else 0)) k)
            sorts false true r n None k =
                let number = has-sort is_number cs c x e ∙ n in
                let kept : keeps cs i q c ≡ true = is-true _ (λ h. true-false (sym (and-both _ _ number (and-both _ _ (ap (λ o. not (is_some o)) k) (ap not h))) ∙ u)) in
                kept-holds c x e n kept ∙ sym (found-word c k (kept-lasts c (has-sort is_root cs c x e ∙ r) kept))
            sorts false false r n o k = refl

    fixed-number : (s : Sort) (w : ℕ) → fixed_word s ≡ Some w → is_number s ≡ true
    fixed-number (Variable v b) w f = refl
    fixed-number Input w f = none-some w f
    fixed-number Output w f = none-some w f
    fixed-number Signal w f = none-some w f
    fixed-number (Local j) w f = none-some w f
    fixed-number (Pointer t) w f = none-some w f
    fixed-number (Port t) w f = none-some w f

    met-number : (c : ℕ) (x : program.Cell) → slice_get cs c ≡ Some x → is_number x.sort ≡ true → actual.now c ≡ ph.held.store.words (at x)
    met-number c x e n =
        ap (met home p s.store.words ph.held.store.words ((found p i q g).now c)) e
        ∙ (λ j. if number-no-root x.sort n j then s.store.words (at x) else (if n j then ph.held.store.words (at x) else (found p i q g).now c))

    met-root : (c : ℕ) (x : program.Cell) → slice_get cs c ≡ Some x → is_root x.sort ≡ true → actual.now c ≡ s.store.words (at x)
    met-root c x e r =
        ap (met home p s.store.words ph.held.store.words ((found p i q g).now c)) e
        ∙ (λ j. if r j then s.store.words (at x) else (if is_number x.sort then ph.held.store.words (at x) else (found p i q g).now c))

    actual-fits : FitWords cs actual
    actual-fits = record { fits = λ c x e h. by c x e (held-two x.sort h); asked = λ c x w e h n. none-some w n }
      where
        by : (c : ℕ) (x : program.Cell) → slice_get cs c ≡ Some x → ((is_root x.sort ≡ true) ⊎ (is_number x.sort ≡ true)) → actual.now c < 2 ^ width_of x.kind
        by c x e (inl r) = subst (λ n. n < 2 ^ width_of x.kind) (sym (met-root c x e r)) (tied.proper c x e (root-held x.sort r))
        by c x e (inr n) = subst (λ n. n < 2 ^ width_of x.kind) (sym (met-number c x e n)) (middle.fit c x e n)

    found-fits : FitWords cs (found p i q g)
    found-fits = record { fits = λ c x e h. by c x e h (constant_at p c) refl (lasts cs i q c); asked = λ c x w e h n. none-some w n }
      where
        by : (c : ℕ) (x : program.Cell) → slice_get cs c ≡ Some x → is_held x.sort ≡ true → (o : Option ℕ) → constant_at p c ≡ o → (b : Bool) → unwrap_or (constant_at p c) (if b then g.word c else 0) < 2 ^ width_of x.kind
        by c x e h (Some w) k b = subst (λ o. unwrap_or o (if b then g.word c else 0) < 2 ^ width_of x.kind) (sym k) (subst (λ n. n < 2 ^ width_of x.kind) (tied.constants c x w e k) (tied.proper c x e h))
        by c x e h None k true = subst (λ o. unwrap_or o (g.word c) < 2 ^ width_of x.kind) (sym k) (tied.fits c x e h)
        by c x e h None k false = subst (λ o. unwrap_or o 0 < 2 ^ width_of x.kind) (sym k) (pow_pos (width_of x.kind))

    -- the words that it finds are proper
    held-fits : (c : ℕ) (x : program.Cell) → slice_get cs c ≡ Some x → is_held x.sort ≡ true → ph.held.store.words (at x) < 2 ^ width_of x.kind
    held-fits c x e h = by (held-two x.sort h)
      where
        by : ((is_root x.sort ≡ true) ⊎ (is_number x.sort ≡ true)) → ph.held.store.words (at x) < 2 ^ width_of x.kind
        by (inl r) = subst (λ n. n < 2 ^ width_of x.kind) (sym (middle.roots c x e r)) (tied.proper c x e h)
        by (inr n) = middle.fit c x e n

    held-constants : (c w : ℕ) (x : program.Cell) → slice_get cs c ≡ Some x → constant_at p c ≡ Some w → ph.held.store.words (at x) ≡ w
    held-constants c w x e k = by (held-two x.sort (constant-held p c w x e k))
      where
        by : ((is_root x.sort ≡ true) ⊎ (is_number x.sort ≡ true)) → ph.held.store.words (at x) ≡ w
        by (inl r) = middle.roots c x e r ∙ tied.constants c x w e k
        by (inr n) = constant-holds c w x e n k

    pub meets : Meets home p s.store.words ph.held.store.words actual
    meets = record {
      shown = proper-from home p resolved s.store.words tied.proper (λ c w x e k. tied.constants c x w e k);
      held = proper-from home p resolved ph.held.store.words held-fits held-constants;
      roots = met-root;
      numbers = met-number;
      calm = λ c. refl;
      fit = actual-fits;
      fixed = record { holds = λ c x w e f. met-number c x e (fixed-number x.sort w f) ∙ constant-holds c w x e (fixed-number x.sort w f) (fixed-constant home p resolved c w x e f) };
    }

    pub both : Both cs (unsure p i q) actual (found p i q g)
    both = record {
      asked = λ c. refl;
      now = same-now;
      fit = actual-fits;
      fit_too = found-fits;
      fixed = meets.fixed;
      fixed_too = record { holds = λ c x w e f. ap (λ o. unwrap_or o (if lasts cs i q c then g.word c else 0)) (fixed-constant home p resolved c w x e f) };
    }
