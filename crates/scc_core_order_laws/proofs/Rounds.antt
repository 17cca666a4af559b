-- A round of processes in any order ends in the state that is tied to what they leave together.
use Rattle.std.proofs.Common.{◌≡◌, ℕ, zero, suc, ◌+◌, Bool, true, false, ◌||◌, nat_eq, List, [], ◌∷◌, Option, Some, None, refl, sym, ap, ◌∙◌, subst, arith, slice_get, is_some}
use Rattle.std.specs.Prelude.{option_map, unwrap_or}
use Rattle.scc_semantics.specs.Design as running
use Rattle.scc_semantics.specs.Design.{Design}
use Rattle.scc_semantics.specs.Process.{State, Phase, Went, Well, and_then, resume, update}
use Rattle.scc_semantics.specs.Process as process
use Rattle.scc_semantics.specs.Schedule.{EachOnce, among, is_method, process_at, starting, run_list, round}
use Rattle.scc_semantics_laws.proofs.Sim.{well-is, well-same}
use Rattle.scc_core_spec.specs.Program.{Program, Process, Edge, is_combinational, is_combinational_by}
use Rattle.scc_core_spec.specs.Source.{Home, processes_from}
use Rattle.scc_blocks_spec.specs.Turns.{Regs, Taking, acted}
use Rattle.scc_blocks_spec.specs.Tied.{Tied}
use Rattle.scc_core_effect_laws.specs.Follows.{IsSoundCore, Obeys, Does, Tracks, design_of}
use Rattle.scc_core_effect_laws.proofs.Names.{or-left, or-right, some-same, none-some, true-false}
use Rattle.scc_core_effect_laws.proofs.Unsure.{is-false}
use Rattle.scc_core_laws.proofs.Found.{number-held}
use Rattle.scc_core_laws.proofs.Resumes.{source_process, resumes}
use Rattle.scc_core_laws.proofs.Settling.{combines}
use Rattle.scc_core_order_laws.proofs.One.{one-resume}
use Rattle.scc_core_order_laws.proofs.Once.{Apart, once-apart}
use Rattle.scc_core_order_laws.proofs.Listed.{Done, RanOf, Res, with_one, done-next, tied-after}

-- each is a process, and one that has an edge runs once
abbrev pub Fresh : Program → (ℕ → Bool) → List ℕ → Type 0
Fresh p has [] = Unit {0}
Fresh p has (i ∷ is) = ((q : Process) × (slice_get p.processes i ≡ Some q) × (is_some q.edge ≡ true → has i ≡ false)) × Fresh p (with_one i has) is

equal : (k i : ℕ) → nat_eq k i ≡ true → k ≡ i
equal k i e = grind arith

pub no-edge : (q : Process) → is_combinational q ≡ true → is_some q.edge ≡ true → ⊥
no-edge q c s = by q.is_thread q.edge c s
  where
    by : (t : Bool) (o : Option Edge) → is_combinational_by t o ≡ true → is_some o ≡ true → ⊥
    by t None c s = true-false (sym s)
    by true (Some d) c s = true-false (sym c)
    by false (Some d) c s = true-false (sym c)

module _ (home : Home) (p : Program) where
  abbrev D : Design
  D = design_of home p

  there : (qs : List Process) (n k : ℕ) → slice_get (processes_from home p n qs) k ≡ option_map (source_process home p (n + k)) (slice_get qs k)
  there [] n k = refl
  there (q ∷ qs) n zero = ap (λ m. Some (source_process home p m q)) from
    where
      from : n ≡ n + 0
      from = omega arith
  there (q ∷ qs) n (suc k) = there qs (suc n) k ∙ ap (λ m. option_map (source_process home p m) (slice_get qs k)) from
    where
      from : suc n + k ≡ n + suc k
      from = omega arith

  process-there : (i : ℕ) → process_at D i ≡ option_map (source_process home p i) (slice_get p.processes i)
  process-there i = there p.processes 0 i ∙ ap (λ m. option_map (source_process home p m) (slice_get p.processes i)) from
    where
      from : 0 + i ≡ i
      from = omega arith

  pub process-is : (i : ℕ) (q : Process) → slice_get p.processes i ≡ Some q → process_at D i ≡ Some (source_process home p i q)
  process-is i q e = process-there i ∙ ap (option_map (source_process home p i)) e

  pub process-from : (i : ℕ) (z : running.Process) → process_at D i ≡ Some z → (q : Process) × (slice_get p.processes i ≡ Some q) × (z ≡ source_process home p i q)
  process-from i z e = by (slice_get p.processes i) refl
    where
      by : (o : Option Process) → slice_get p.processes i ≡ o → (q : Process) × (slice_get p.processes i ≡ Some q) × (z ≡ source_process home p i q)
      by None h = none-some z (sym (process-there i ∙ ap (option_map (source_process home p i)) h) ∙ e)
      by (Some q) h = (q, h, some-same z (source_process home p i q) (sym e ∙ process-is i q h))

  -- processes of which none is named twice
  apart-fresh : (order : List ℕ) (has : ℕ → Bool) → ((i : ℕ) → among i order ≡ true → (q : Process) × (slice_get p.processes i ≡ Some q)) → Apart order → ((i : ℕ) → among i order ≡ true → has i ≡ false) → Fresh p has order
  apart-fresh [] has there a h = tt
  apart-fresh (i ∷ is) has there a h =
      let q = there i (or-left (nat_eq i i) _ (self i)) in (
        (q.0, q.1, λ e. h i (or-left (nat_eq i i) _ (self i))),
        apart-fresh is (with_one i has) (λ j m. there j (or-right (nat_eq j i) _ m)) a.1 (λ j m. neither (nat_eq j i) (has j) (other j m) (h j (or-right (nat_eq j i) _ m))),
      )
    where
      self : (i : ℕ) → nat_eq i i ≡ true
      self i = grind arith

      other : (j : ℕ) → among j is ≡ true → nat_eq j i ≡ false
      other j m = is-false _ (λ e. true-false (sym m ∙ ap (λ j. among j is) (equal j i e) ∙ a.0))

      neither : (a b : Bool) → a ≡ false → b ≡ false → (a || b) ≡ false
      neither true b e f = e
      neither false b e f = f

  module _ (b : ℕ → ℕ) (test : running.Process → Bool) (order : List ℕ) (once : EachOnce b D test order) where
    pub once-fresh : Fresh p (λ i. false) order
    once-fresh = apart-fresh order (λ i. false) (λ i m. let o = once.only i m in let q = process-from i o.0 o.1 in (q.0, q.1)) (once-apart b D test order once) (λ i m. refl)

    pub once-is : (i : ℕ) (q : Process) → slice_get p.processes i ≡ Some q → test (source_process home p i q) ≡ among i order
    once-is i q e = by (test (source_process home p i q)) refl
      where
        by : (t : Bool) → test (source_process home p i q) ≡ t → t ≡ among i order
        by true t = sym (once.all i (source_process home p i q) (process-is i q e) t)
        by false t = sym (is-false _ (λ m.
            let o = once.only i m in
            true-false (sym o.2 ∙ ap test (some-same o.0 (source_process home p i q) (sym o.1 ∙ process-is i q e)) ∙ t)))

module _ (home : Home) (p : Program) (resolved : IsSoundCore home p) (obeys : Obeys p) (bounds : ℕ → ℕ) (does : Does home p bounds) (tracks : Tracks home p bounds) where
  abbrev E : Design
  E = design_of home p

  pub method-is : (i : ℕ) (q : Process) → slice_get p.processes i ≡ Some q → is_method E i ≡ is_combinational q
  method-is i q e = ap (λ o. unwrap_or (option_map process.is_combinational o) false) (process-is home p i q e) ∙ combines home p resolved obeys bounds does tracks i q e

  pub method-at : (i : ℕ) → is_method E i ≡ true → (q : Process) × (slice_get p.processes i ≡ Some q) × (is_combinational q ≡ true)
  method-at i m = by (process_at E i) refl
    where
      by : (o : Option running.Process) → process_at E i ≡ o → (q : Process) × (slice_get p.processes i ≡ Some q) × (is_combinational q ≡ true)
      by None e = true-false (sym m ∙ ap (λ o. unwrap_or (option_map process.is_combinational o) false) e)
      by (Some z) e = let q = process-from home p i z e in (q.0, q.1, sym (method-is i q.0 q.1) ∙ m)

  pub methods-fresh : (runs : List ℕ) (has : ℕ → Bool) → ((i : ℕ) → among i runs ≡ true → is_method E i ≡ true) → Fresh p has runs
  methods-fresh [] has h = tt
  methods-fresh (i ∷ is) has h =
      let q = method-at i (h i (or-left (nat_eq i i) _ (self i))) in
      ((q.0, q.1, λ e. absurd (no-edge q.0 q.2 e)), methods-fresh is (with_one i has) (λ j m. h j (or-right (nat_eq j i) _ m)))
    where
      self : (i : ℕ) → nat_eq i i ≡ true
      self i = grind arith

  module _ (b : ℕ → ℕ) (s : State) (g : Regs) (tied : Tied home p s g) where
    abbrev Ran : (ℕ → Bool) → Phase → Type 0
    Ran = Done home p resolved obeys bounds does tracks s g tied

    swap : (a b c : Bool) → (a || (b || c)) ≡ ((b || a) || c)
    swap true true c = refl
    swap true false c = refl
    swap false true c = refl
    swap false false c = refl

    list-done : (is : List ℕ) (has : ℕ → Bool) (ph to : Phase) → Fresh p has is → Ran has ph → run_list b E s.store.words is ph ≡ Well to → Ran (λ j. among j is || has j) to
    list-done [] has ph to fresh done e = subst (Ran has) (well-same ph to e) done
    list-done (i ∷ is) has ph to fresh done e =
        let q = fresh.0.0 in
        let here = fresh.0.1 in
        let w = well-is (unwrap_or (option_map (λ z. resume b E s.store.words i z ph) (process_at E i)) (Well ph)) (run_list b E s.store.words is) to e in
        let goes : resume b E s.store.words i (source_process home p i q) ph ≡ Well w.0 = sym (ap (λ o. unwrap_or (option_map (λ z. resume b E s.store.words i z ph) o) (Well ph)) (process-is home p i q here)) ∙ w.1 in
        let z = resumes home p resolved obeys bounds does tracks (RanOf home p resolved obeys bounds does tracks s g tied has) s g tied i q here ph done.middle (λ n a. true-false (sym a ∙ fresh.0.2 n)) in
        let same : w.0 ≡ z.to = one-resume b bounds E s.store.words i (source_process home p i q) ph w.0 z.to goes z.goes in
        let next = done-next home p resolved obeys bounds does tracks s g tied has i q here ph w.0 z.left done (subst (λ t. Res home p resolved obeys bounds does tracks s g tied has i q ph t z.left) (sym same) z.resumed) in
        subst (λ h. Ran h to) (λ k j. swap (among j is) (nat_eq j i) (has j) k) (list-done is (with_one i has) w.0 to fresh.1 next w.2)

    none-done : Ran (λ i. false) (starting s)
    none-done = record {
      middle = record {
        numbers = λ c x e n u. refl;
        roots = λ c x e r. refl;
        asked = λ c x w e r u. refl;
        unasked = λ c x w e n. refl;
        fit = λ c x e n. tied.proper c x e (number-held x.sort n);
        fit_asked = λ c x w e r f. f;
        frames = λ j r e n. refl;
      };
      turned = λ j q e h. true-false (sym h);
      wrote = λ j c q x f e h k a w. true-false (sym a);
    }

    or-false : (a : Bool) → a ≡ (a || false)
    or-false true = refl
    or-false false = refl

    pub round-follows : (runs : List ℕ) (takes : Taking) → Fresh p (λ i. false) runs → ((i : ℕ) (q : Process) → slice_get p.processes i ≡ Some q → takes i q ≡ among i runs) → (t : State) → round b E runs s ≡ Well t → Tied home p t (acted p takes g)
    round-follows runs takes fresh agrees t e =
        let w = well-is (run_list b E s.store.words runs (starting s)) (λ u. Well (update b E u)) t e in
        subst (λ t. Tied home p t (acted p takes g)) (well-same (update b E w.0) t w.2)
        (tied-after home p resolved obeys bounds does tracks s g tied b (λ j. among j runs || false) takes (λ i q f. agrees i q f ∙ or-false (among i runs)) w.0 (list-done runs (λ i. false) (starting s) w.0 fresh none-done w.1))

  -- ---- a round goes well
  module _ (s : State) (g : Regs) (tied : Tied home p s g) where
    list-goes : (is : List ℕ) (has : ℕ → Bool) (ph : Phase) → Fresh p has is → Done home p resolved obeys bounds does tracks s g tied has ph → (to : Phase) × (run_list bounds E s.store.words is ph ≡ Well to)
    list-goes [] has ph fresh done = (ph, refl)
    list-goes (i ∷ is) has ph fresh done =
        let q = fresh.0.0 in
        let here = fresh.0.1 in
        let z = resumes home p resolved obeys bounds does tracks (RanOf home p resolved obeys bounds does tracks s g tied has) s g tied i q here ph done.middle (λ n a. true-false (sym a ∙ fresh.0.2 n)) in
        let m = list-goes is (with_one i has) z.to fresh.1 (done-next home p resolved obeys bounds does tracks s g tied has i q here ph z.to z.left done z.resumed) in (
          m.0,
          ap (λ o. and_then (unwrap_or (option_map (λ z. resume bounds E s.store.words i z ph) o) (Well ph)) (run_list bounds E s.store.words is)) (process-is home p i q here)
              ∙ ap (λ o. and_then o (run_list bounds E s.store.words is)) z.goes ∙ m.1,
        )

    pub round-goes-well : (runs : List ℕ) → Fresh p (λ i. false) runs → (t : State) × (round bounds E runs s ≡ Well t)
    round-goes-well runs fresh =
        let m = list-goes runs (λ i. false) (starting s) fresh (none-done bounds s g tied) in
        (update bounds E m.0, ap (λ o. and_then o (λ u. Well (update bounds E u))) m.1)
