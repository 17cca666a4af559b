-- Whatever lists a scheduler takes, a settling ends after at most as many rounds as there are methods, and one more.
use Rattle.std.proofs.Common.{◌≡◌, ℕ, zero, suc, ◌≤◌, Bool, true, false, not, ◌&&◌, nat_eq, List, [], ◌∷◌, length, filter, Option, Some, None, refl, sym, ap, ◌∙◌, arith, slice_get, ◌⊎◌, inl, inr}
use Rattle.std.specs.Prelude.{option_and_then}
use Rattle.scc_bits_kinds.specs.declared.kind.Kind.{Kind}
use Rattle.scc_semantics.specs.Location.{Location, same}
use Rattle.scc_semantics.specs.Places.{Signal}
use Rattle.scc_semantics.specs.Design.{Design}
use Rattle.scc_semantics.specs.Process.{State, Well}
use Rattle.scc_semantics.specs.Process as process
use Rattle.scc_semantics.specs.Schedule.{Running, Covers, Settles, last, goes, round, found_after}
use Rattle.scc_semantics.specs.Rounds.{Reached, settles, Changes, Restless, still, again}
use Rattle.scc_core_spec.specs.Program as program
use Rattle.scc_core_spec.specs.Program.{Program, is_root, is_pointer}
use Rattle.scc_core_spec.specs.Static.{Cells}
use Rattle.scc_core_spec.specs.Source.{Home, cell_location, cell_there, thing_of}
use Rattle.scc_core_effect_laws.specs.Follows.{IsSoundCore, Obeys, Does, Tracks, design_of}
use Rattle.scc_core_effect_laws.specs.Ordering.{IsOrdered}
use Rattle.scc_core_effect_laws.proofs.Names.{and-first, and-second, some-same, none-some, true-false}
use Rattle.scc_core_laws.proofs.Found.{root-held}
use Rattle.scc_core_laws.proofs.Seeing.{thing-at}
use Rattle.scc_semantics_laws.proofs.Places.{same-is}
use Rattle.scc_core_order_laws.specs.Inputs.{KeepsInputs}
use Rattle.scc_core_order_laws.proofs.Asked.{Senses}
use Rattle.scc_core_order_laws.proofs.Rounds.{methods-fresh, round-goes-well}
use Rattle.scc_core_order_laws.proofs.Settled.{root-is-signal}
use Rattle.scc_core_order_laws.proofs.Soon.{found-at, reached-follows, ends-soon}

-- either one passes or none does
pass-or : {A : Type 0} (test : A → Bool) (xs : List A) → ((n : ℕ) × (x : A) × (slice_get xs n ≡ Some x) × (test x ≡ true)) ⊎ ((n : ℕ) (x : A) → slice_get xs n ≡ Some x → test x ≡ false)
pass-or test [] = inr (λ n x e. none-some x e)
pass-or {A = A} test (y ∷ xs) = by (test y) refl (pass-or test xs)
  where
    by : (b : Bool) → test y ≡ b → (((n : ℕ) × (x : A) × (slice_get xs n ≡ Some x) × (test x ≡ true)) ⊎ ((n : ℕ) (x : A) → slice_get xs n ≡ Some x → test x ≡ false))
        → ((n : ℕ) × (x : A) × (slice_get (y ∷ xs) n ≡ Some x) × (test x ≡ true)) ⊎ ((n : ℕ) (x : A) → slice_get (y ∷ xs) n ≡ Some x → test x ≡ false)
    by true t more = inl (zero, y, refl, t)
    by false t (inl m) = inl (suc m.0, m.1, m.2, m.3)
    by false t (inr m) = inr none
      where
        none : (n : ℕ) (x : A) → slice_get (y ∷ xs) n ≡ Some x → test x ≡ false
        none zero x e = ap test (sym (some-same y x e)) ∙ t
        none (suc n) x e = m n x e

module _ (home : Home) (p : Program) (resolved : IsSoundCore home p) (obeys : Obeys p) (bounds : ℕ → ℕ) (does : Does home p bounds) (tracks : Tracks home p bounds) (order : List ℕ) (ordered : IsOrdered p order) (senses : Senses p)
    (kept : KeepsInputs p) where
  abbrev cs : Cells
  cs = p.cells

  abbrev at : program.Cell → Location
  at x = cell_location home p x

  abbrev D : Design
  D = design_of home p

  abbrev Same : State → State → Type 0
  Same s t = (l : Location) (k : Kind) → D.places.things l ≡ Some (Signal k) → t.store.words l ≡ s.store.words l

  -- a signal changes, or none does
  changes-or : (s t : State) → (Changes D s t) ⊎ (Same s t)
  changes-or s t = by (pass-or (λ x. is_root x.sort && not (nat_eq (t.store.words (at x)) (s.store.words (at x)))) cs)
    where
      unlike : (n m : ℕ) → not (nat_eq n m) ≡ true → n ≡ m → ⊥
      unlike n m e q = absurd (grind (arith, e, q))

      alike : (r : Bool) (n m : ℕ) → r ≡ true → (r && not (nat_eq n m)) ≡ false → n ≡ m
      alike true n m r e = grind (arith, e)
      alike false n m r e = true-false (sym r)

      signal-root : (x : program.Cell) (k : Kind) (s : program.Sort) → thing_of home p x s ≡ Some (Signal k) → is_root s ≡ true
      signal-root x k program.Input e = refl
      signal-root x k program.Output e = refl
      signal-root x k program.Signal e = refl
      signal-root x k (program.Variable w t) e = absurd cc
      signal-root x k (program.Local i) e = absurd cc
      signal-root x k (program.Pointer t) e = absurd cc
      signal-root x k (program.Port t) e = absurd cc

      by : (((n : ℕ) × (x : program.Cell) × (slice_get cs n ≡ Some x) × ((is_root x.sort && not (nat_eq (t.store.words (at x)) (s.store.words (at x)))) ≡ true))
          ⊎ ((n : ℕ) (x : program.Cell) → slice_get cs n ≡ Some x → (is_root x.sort && not (nat_eq (t.store.words (at x)) (s.store.words (at x)))) ≡ false)) → (Changes D s t) ⊎ (Same s t)
      by (inl z) =
          let root = and-first (is_root z.1.sort) _ z.3 in
          inl (record {
            signal = at z.1;
            kind = z.1.kind;
            stands = thing-at home p resolved z.0 z.1 z.2 (root-held z.1.sort root) ∙ root-is-signal home p resolved obeys bounds does tracks order ordered senses z.1 root;
            other = λ q. unlike (t.store.words (at z.1)) (s.store.words (at z.1)) (and-second (is_root z.1.sort) _ z.3) q;
          })
      by (inr none) = inr (λ l k e. found l k (cell_there home p false l) refl e)
        where
          found : (l : Location) (k : Kind) (o : Option program.Cell) → cell_there home p false l ≡ o → option_and_then (λ c. thing_of home p c c.sort) o ≡ Some (Signal k) → t.store.words l ≡ s.store.words l
          found l k None e m = none-some (Signal k) m
          found l k (Some x) e m =
              let z = found-at (λ c. same (at c) l && not (is_pointer c.sort)) cs x e in
              let place = same-is (at x) l (and-first _ _ z.2) in
              ap t.store.words (sym place) ∙ alike (is_root x.sort) (t.store.words (at x)) (s.store.words (at x)) (signal-root x k x.sort m) (none z.0 x z.1) ∙ ap s.store.words place

  -- a round of methods that covers goes well
  goes-on : (r : Running) → Reached bounds D r → (runs : List ℕ) → Covers D r runs → (s : State) × (round bounds D runs r.state ≡ Well s)
  goes-on r reached runs covers =
      let m = reached-follows home p resolved obeys bounds does tracks order ordered senses kept bounds reached in
      round-goes-well home p resolved obeys bounds does tracks r.state m.0 m.1.tied runs (methods-fresh home p resolved obeys bounds does tracks runs (λ i. false) covers.methods)

  module _ (choose : Running → List ℕ) (covers : (r : Running) → Covers D r (choose r)) where
    abbrev Ended : ℕ → Running → Type 0
    Ended m r = (n : ℕ) × (t : Running) × Settles bounds D n r t × (n ≤ m)

    within : (m : ℕ) (r : Running) → Reached bounds D r → (Ended m r) ⊎ (Restless bounds D m r)
    within zero r reached = inr (still r)
    within (suc m) r reached = by (changes-or r.state s) (within m (record { state = s; found = found_after bounds D (choose r) r }) (settles (choose r) r s (covers r) went reached))
      where
        step : (s : State) × (round bounds D (choose r) r.state ≡ Well s)
        step = goes-on r reached (choose r) (covers r)

        s : State
        s = step.0

        went : round bounds D (choose r) r.state ≡ Well s
        went = step.1

        by : ((Changes D r.state s) ⊎ (Same r.state s)) → ((Ended m (record { state = s; found = found_after bounds D (choose r) r })) ⊎ (Restless bounds D m (record { state = s; found = found_after bounds D (choose r) r })))
            → (Ended (suc m) r) ⊎ (Restless bounds D (suc m) r)
        by (inr quiet) more = inl (1, record { state = s; found = found_after bounds D (choose r) r }, last (choose r) r s (covers r) went quiet, omega arith)
        by (inl c) (inl e) = let l = e.3 in inl (suc e.0, e.1, goes (choose r) s (covers r) went e.2, omega (arith, l))
        by (inl c) (inr e) = inr (again (choose r) r s (covers r) went c e)

    pub ends-within : (r : Running) → Reached bounds D r → Ended (suc (length (filter process.is_combinational D.processes))) r
    ends-within r reached = by (within (suc (length (filter process.is_combinational D.processes))) r reached)
      where
        by : ((Ended (suc (length (filter process.is_combinational D.processes))) r) ⊎ (Restless bounds D (suc (length (filter process.is_combinational D.processes))) r)) → Ended (suc (length (filter process.is_combinational D.processes))) r
        by (inl e) = e
        by (inr e) =
            let most : ℕ = length (filter process.is_combinational D.processes) in
            let few : suc most ≤ most = ends-soon home p resolved obeys bounds does tracks order ordered senses kept bounds (suc most) r reached e in
            absurd (omega (arith, few))
