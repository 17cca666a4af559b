-- At inputs of a resolved core nothing is fixed or constant.
use Rattle.std.proofs.Common.{◌≡◌, ◌⊎◌, inl, inr, ℕ, zero, suc, Bool, true, false, not, List, [], ◌∷◌, map, filter, Option, Some, None, refl, sym, ap, subst, ◌∙◌, ◌+◌, arith}
use Rattle.std.specs.Prelude.{slice_get, filter_map, if◌then◌else◌, cond}
use Rattle.std.specs.List.{list_any}
use Rattle.scc_semantics.specs.Location.{Location, same}
use Rattle.scc_semantics_laws.proofs.Places.{same-is}
use Rattle.scc_semantics.specs.Design as running
use Rattle.scc_semantics.specs.Design.{TopPort, inputs, locations, is_clock}
use Rattle.scc_semantics.specs.Machine.{Frames}
use Rattle.scc_semantics.specs.Start.{IsProper}
use Rattle.scc_semantics.specs.Value.{Held}
use Rattle.scc_semantics.specs.Steady.{IsSteady, AllProperRequests}
use Rattle.scc_core_spec.specs.Program.{Program, is_input, is_output}
use Rattle.scc_core_spec.specs.Program as program
use Rattle.scc_core_spec.specs.Constants.{constants_of}
use Rattle.scc_core_spec.specs.Source.{Home, source_of, port_of, cell_location}
use Rattle.scc_blocks_spec.specs.Comes.{Comes, Keeps}
use Rattle.scc_blocks_spec.specs.Passed.{IsHome}
use Rattle.scc_states_laws.proofs.Values.{some_same}
use Rattle.scc_core_spec.specs.IsResolved.{IsResolved}
use Rattle.scc_core_resolved_laws.proofs.Apart.{tells-apart}
use Rattle.scc_core_resolved_laws.proofs.Coming.{keeps, comes-fine}
use Rattle.scc_core_resolved_laws.proofs.Assigned.{Proper}
use Rattle.scc_states_laws.specs.Processes.{running_of}
use Rattle.scc_core_resolved_laws.proofs.Freed.{written-free, input-constants, input-fixed}
use Rattle.scc_core_resolved_laws.proofs.Steady.{all-steady}
use Rattle.scc_core_resolved_laws.proofs.Writes.{or-cases}

pub any-at : {A : Type 0} (t : A → Bool) (xs : List A) → list_any t xs ≡ true → (k : ℕ) × (x : A) × (slice_get xs k ≡ Some x) × (t x ≡ true)
any-at t [] e = absurd cc
any-at t (x ∷ xs) e = by (or-cases (t x) (list_any t xs) e) (any-at t xs)
  where
    by : (t x ≡ true) ⊎ (list_any t xs ≡ true) → (list_any t xs ≡ true → (k : ℕ) × (y : _) × (slice_get xs k ≡ Some y) × (t y ≡ true)) → (k : ℕ) × (y : _) × (slice_get (x ∷ xs) k ≡ Some y) × (t y ≡ true)
    by (inl h) i = (0, x, refl, h)
    by (inr h) i = let u = i h in (suc u.0, u.1, u.2, u.3)

pub filter-at : {A : Type 0} (f : A → Bool) (xs : List A) (k : ℕ) (x : A) → slice_get (filter f xs) k ≡ Some x → (n : ℕ) × (slice_get xs n ≡ Some x) × (f x ≡ true)
filter-at f [] k x e = absurd cc
filter-at {A} f (y ∷ ys) k x e = by (f y) refl k e (filter-at f ys)
  where
    by : (b : Bool) → f y ≡ b → (k : ℕ) → slice_get (cond b (y ∷ filter f ys) (filter f ys)) k ≡ Some x → ((k : ℕ) (x : A) → slice_get (filter f ys) k ≡ Some x → (n : ℕ) × (slice_get ys n ≡ Some x) × (f x ≡ true))
        → (n : ℕ) × (slice_get (y ∷ ys) n ≡ Some x) × (f x ≡ true)
    by true h zero g i = let s = some_same g in (0, ap Some s, subst (λ z. f z ≡ true) s h)
    by true h (suc k) g i = let u = i k x g in (suc u.0, u.1, u.2)
    by false h k g i = let u = i k x g in (suc u.0, u.1, u.2)

pub mapped-at : {A B : Type 0} (f : A → B) (xs : List A) (k : ℕ) (y : B) → slice_get (map f xs) k ≡ Some y → (x : A) × (slice_get xs k ≡ Some x) × (f x ≡ y)
mapped-at f [] k y e = absurd cc
mapped-at f (x ∷ xs) zero y e = (x, refl, some_same e)
mapped-at f (x ∷ xs) (suc k) y e = mapped-at f xs k y e

pub chosen-at : {A B : Type 0} (h : A → Option B) (xs : List A) (k : ℕ) (y : B) → slice_get (filter_map h xs) k ≡ Some y → (n : ℕ) × (x : A) × (slice_get xs n ≡ Some x) × (h x ≡ Some y)
chosen-at h [] k y e = absurd cc
chosen-at {A} {B} h (x ∷ xs) k y e = by (h x) refl k (rw e refl) (chosen-at h xs)
  where
    by : (o : Option B) → h x ≡ o → (k : ℕ) → slice_get (filter_map h (x ∷ xs)) k ≡ Some y → ((k : ℕ) (y : B) → slice_get (filter_map h xs) k ≡ Some y → (n : ℕ) × (x : A) × (slice_get xs n ≡ Some x) × (h x ≡ Some y))
        → (n : ℕ) × (z : A) × (slice_get (x ∷ xs) n ≡ Some z) × (h z ≡ Some y)
    by None d k g i = let g' = rw d at g in let u = i k y g' in (suc u.0, u.1, u.2, u.3)
    by (Some z) d zero g i = let g' : Some z ≡ Some y = rw d at g in (0, x, refl, d ∙ g')
    by (Some z) d (suc k) g i = let g' : slice_get (filter_map h xs) k ≡ Some y = rw d at g in let u = i k y g' in (suc u.0, u.1, u.2, u.3)

module _ (home : Home) (is : IsHome home) (p : Program) (r : IsResolved p) where
  abbrev D : running.Design
  D = source_of home p (constants_of home p)

  port-is : (x : program.Cell) (t : TopPort) → port_of home p x ≡ Some t → running.is_input t.direction ≡ true → (is_input x.sort ≡ true) × (t.location ≡ cell_location home p x)
  port-is x t e d = by (is_input x.sort) refl (is_output x.sort) e
    where
      by : (b : Bool) → is_input x.sort ≡ b → (c : Bool)
          → (if b then Some (record { location = cell_location home p x; direction = running.Input }) else (if c then Some (record { location = cell_location home p x; direction = running.Output }) else None)) ≡ Some t
          → (is_input x.sort ≡ true) × (t.location ≡ cell_location home p x)
      by true h c g = (h, sym (ap (λ z. z.location) (some_same g)))
      by false h true g = let f : running.is_input running.Output ≡ true = ap (λ z. running.is_input z.direction) (some_same g) ∙ d in absurd cc
      by false h false g = absurd cc

  pub inputs-free : (l : Location) → list_any (same l) (inputs D) ≡ true → (D.fixed l ≡ None) × (D.constant l ≡ None)
  inputs-free l e =
      let a = any-at (same l) (inputs D) e in
      let b = filter-at (λ l. not (is_clock D l)) (locations (filter (λ p. running.is_input p.direction) D.ports)) a.0 a.1 a.2 in
      let c = mapped-at (λ p. p.location) (filter (λ p. running.is_input p.direction) D.ports) b.0 a.1 b.1 in
      let d = filter-at (λ p. running.is_input p.direction) D.ports b.0 c.0 c.1 in
      let f = chosen-at (port_of home p) p.cells d.0 c.0 d.1 in
      let g = port-is f.1 c.0 f.3 d.2 in
      let same : l ≡ cell_location home p f.1 = same-is l a.1 a.3 ∙ (sym c.2 ∙ g.1) in
      (ap D.fixed same ∙ input-fixed home is p r f.0 f.1 f.2 g.0, ap D.constant same ∙ input-constants home is p r f.0 f.1 f.2 g.0)

  pub is-steady : IsSteady D
  is-steady = record { processes = all-steady home is p r 0 0 p.processes refl (λ k q e. e'' k q e); inputs = inputs-free }
    where
      e'' : (k : ℕ) (q : program.Process) → slice_get p.processes k ≡ Some q → slice_get p.processes (0 + k) ≡ Some q
      e'' k q e = let n : k ≡ 0 + k = omega arith in subst (λ n. slice_get p.processes n ≡ Some q) n e

  pub all-kept : Keeps D
  all-kept = keeps home (constants_of home p) p r (λ i q g. tells-apart home is p r i q g) (λ i q g n w. written-free home is p r i n q g w)

  pub stay-proper : (i : ℕ) (q : program.Process) (signals : Location → ℕ) (f : Frames) (h : Held) → slice_get p.processes i ≡ Some q → Comes D i (running_of home p i q) signals f h
      → IsProper D h.store.words × AllProperRequests D h.requests
  unfolding Proper
  stay-proper i q signals f h g c = (comes-fine home (constants_of home p) p i q (tells-apart home is p r i q g) r g (λ n w. written-free home is p r i n q g w) c).proper
