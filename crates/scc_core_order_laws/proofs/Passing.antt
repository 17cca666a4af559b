-- The processes that pass a test, once each; and the list of all methods covers those that must run.
use Rattle.std.proofs.Common.{◌≡◌, ℕ, zero, suc, ◌+◌, Bool, true, false, ◌&&◌, ◌||◌, nat_eq, cond, List, [], ◌∷◌, length, filter, Option, Some, None, refl, sym, ap, ◌∙◌, arith, if◌then◌else◌, slice_get}
use Rattle.std.specs.Prelude.{option_map, unwrap_or}
use Rattle.scc_semantics.specs.Design.{Process, Design}
use Rattle.scc_semantics.specs.Process.{is_combinational}
use Rattle.scc_semantics.specs.Schedule.{Running, Covers, EachOnce, among, has_changed, is_method, must_run, process_at, senses_of}
use Rattle.scc_core_effect_laws.proofs.Names.{and-first, or-left, or-right, some-same, none-some, true-false}

-- their numbers, from n on
abbrev pub passing : (Process → Bool) → List Process → ℕ → List ℕ
passing test [] n = []
passing test (z ∷ zs) n = if test z then n ∷ passing test zs (suc n) else passing test zs (suc n)

module _ (test : Process → Bool) where
  passing-all : (zs : List Process) (n k : ℕ) (z : Process) → slice_get zs k ≡ Some z → test z ≡ true → among (n + k) (passing test zs n) ≡ true
  passing-all [] n k z e t = none-some z e
  passing-all (y ∷ zs) n zero z e t = ap (λ b. among (n + 0) (if b then n ∷ passing test zs (suc n) else passing test zs (suc n))) (ap test (some-same y z e) ∙ t) ∙ or-left (nat_eq (n + 0) n) _ here
    where
      here : nat_eq (n + 0) n ≡ true
      here = grind arith
  passing-all (y ∷ zs) n (suc k) z e t = by (test y) (ap (λ m. among m (passing test zs (suc n))) from ∙ passing-all zs (suc n) k z e t)
    where
      from : n + suc k ≡ suc n + k
      from = omega arith

      by : (b : Bool) → among (n + suc k) (passing test zs (suc n)) ≡ true → among (n + suc k) (if b then n ∷ passing test zs (suc n) else passing test zs (suc n)) ≡ true
      by true h = or-right (nat_eq (n + suc k) n) _ h
      by false h = h

  passing-only : (zs : List Process) (n i : ℕ) → among i (passing test zs n) ≡ true → (k : ℕ) × (z : Process) × (i ≡ n + k) × (slice_get zs k ≡ Some z) × (test z ≡ true)
  passing-only [] n i a = true-false (sym a)
  passing-only (y ∷ zs) n i a = by (test y) refl a (λ a. passing-only zs (suc n) i a)
    where
      equal : nat_eq i n ≡ true → i ≡ n + 0
      equal e = grind arith

      next : ((k : ℕ) × (z : Process) × (i ≡ suc n + k) × (slice_get zs k ≡ Some z) × (test z ≡ true)) → (k : ℕ) × (z : Process) × (i ≡ n + k) × (slice_get (y ∷ zs) k ≡ Some z) × (test z ≡ true)
      next m = let q = m.2 in (suc m.0, m.1, omega (arith, q), m.3, m.4)

      first : (e : Bool) → nat_eq i n ≡ e → (e || among i (passing test zs (suc n))) ≡ true → test y ≡ true → (among i (passing test zs (suc n)) ≡ true → (k : ℕ) × (z : Process) × (i ≡ suc n + k) × (slice_get zs k ≡ Some z) × (test z ≡ true))
          → (k : ℕ) × (z : Process) × (i ≡ n + k) × (slice_get (y ∷ zs) k ≡ Some z) × (test z ≡ true)
      first true e a t more = (zero, y, equal e, refl, t)
      first false e a t more = next (more a)

      by : (b : Bool) → test y ≡ b → among i (if b then n ∷ passing test zs (suc n) else passing test zs (suc n)) ≡ true
          → (among i (passing test zs (suc n)) ≡ true → (k : ℕ) × (z : Process) × (i ≡ suc n + k) × (slice_get zs k ≡ Some z) × (test z ≡ true)) → (k : ℕ) × (z : Process) × (i ≡ n + k) × (slice_get (y ∷ zs) k ≡ Some z) × (test z ≡ true)
      by true t a more = first (nat_eq i n) refl a t more
      by false t a more = next (more a)

  passing-count : (zs : List Process) (n : ℕ) → length (passing test zs n) ≡ length (filter test zs)
  passing-count [] n = refl
  passing-count (y ∷ zs) n = by (test y) (passing-count zs (suc n))
    where
      by : (b : Bool) → length (passing test zs (suc n)) ≡ length (filter test zs) → length (if b then n ∷ passing test zs (suc n) else passing test zs (suc n)) ≡ length (cond b (y ∷ filter test zs) (filter test zs))
      by true h = ap suc h
      by false h = h

  pub passing-once : (b : ℕ → ℕ) (d : Design) → EachOnce b d test (passing test d.processes 0)
  passing-once b d = record {
    all = λ i z e t. ap (λ m. among m (passing test d.processes 0)) (from i) ∙ passing-all d.processes 0 i z e t;
    only = λ i a. let m = passing-only d.processes 0 i a in (m.1, ap (slice_get d.processes) (m.2 ∙ sym (from m.0)) ∙ m.3, m.4);
    once = passing-count d.processes 0;
  }
    where
      from : (i : ℕ) → i ≡ 0 + i
      from i = omega arith

-- all methods
abbrev pub all_methods : Design → List ℕ
all_methods d = passing is_combinational d.processes 0

-- a list of methods that names each covers
pub named-cover : (d : Design) (r : Running) (runs : List ℕ) → ((i : ℕ) → among i runs ≡ true → is_method d i ≡ true) → ((i : ℕ) → is_method d i ≡ true → among i runs ≡ true) → Covers d r runs
named-cover d r runs only all = record { methods = only; all = λ i m. all i (method i m) }
  where
    method : (i : ℕ) → must_run d r i ≡ true → is_method d i ≡ true
    method i m = by (process_at d i) m
      where
        by : (o : Option Process) → unwrap_or (option_map (λ p. is_combinational p && has_changed (r.found i) r.state.store.words (senses_of p.sort)) o) false ≡ true → unwrap_or (option_map is_combinational o) false ≡ true
        by None m = m
        by (Some p) m = and-first (is_combinational p) _ m

pub all-cover : (d : Design) (r : Running) → Covers d r (all_methods d)
all-cover d r = named-cover d r (all_methods d) only all
  where
    each-once : (b : ℕ → ℕ) → EachOnce b d is_combinational (all_methods d)
    each-once b = passing-once is_combinational b d

    only : (i : ℕ) → among i (all_methods d) ≡ true → is_method d i ≡ true
    only i a = let m = (each-once (λ i. 0)).only i a in ap (λ o. unwrap_or (option_map is_combinational o) false) m.1 ∙ m.2

    all : (i : ℕ) → is_method d i ≡ true → among i (all_methods d) ≡ true
    all i m = by (process_at d i) refl
      where
        by : (o : Option Process) → process_at d i ≡ o → among i (all_methods d) ≡ true
        by None e = true-false (sym m ∙ ap (λ o. unwrap_or (option_map is_combinational o) false) e)
        by (Some z) e = (each-once (λ i. 0)).all i z e (sym (ap (λ o. unwrap_or (option_map is_combinational o) false) e) ∙ m)
