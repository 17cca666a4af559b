-- What the live part of code writes, along the code.
use Rattle.std.proofs.Common.{◌≡◌, ◌⊎◌, inl, inr, ℕ, zero, suc, ◌+◌, Bool, true, false, not, nat_eq, List, [], ◌∷◌, ◌++◌, map, Option, Some, None, refl, sym, ap, subst, ◌∙◌, arith}
use Rattle.std.specs.Prelude.{◌||◌, slice_get, option_map, unwrap_or, flat_map, if◌then◌else◌}
use Rattle.std.proofs.lemmas.Grind.{flat_map-append}
use Rattle.std.proofs.lemmas.List.Folds.{list_any-append}
use Rattle.std.proofs.Common.{append_assoc}
use Rattle.scc_base.specs.declared.refusal.Place.{Place}
use Rattle.scc_core_spec.specs.Term.{Term, Left}
use Rattle.scc_core_spec.specs.Code.{Code, Count, End, Put, Aim, If, Block, Loop, Exit, Wait, append}
use Rattle.scc_core_spec.specs.Program as program
use Rattle.scc_core_spec.specs.Program.{is_pointer}
use Rattle.scc_core_spec.specs.Named.{Step, steps_of, names_cell, cell_at, cells_at, fits}
use Rattle.scc_core_spec.specs.Static.{Cells, goes, pattern}
use Rattle.scc_core_spec.specs.Live.{Alive, alive, live, then_alive, by_test, looped, shut}
use Rattle.scc_core_spec.specs.Uses.{Act, acts, cells_of, writes_of, among, root_of}
use Rattle.scc_states_laws.proofs.Values.{some_same}
use Rattle.scc_core_spec.specs.OpenNames.{agrees, all_agreeing, completes, is_sized}
use Rattle.scc_core_resolved_laws.proofs.Bools.{and-both, or-second, not-true, nat_eq-self, nat_eq-is, all-at}
use Rattle.scc_core_resolved_laws.proofs.Agreeing.{agrees-closed, fits-is}
use Rattle.scc_core_resolved_laws.proofs.Cells.{found-cell}

pub or-left : (a b : Bool) → a ≡ true → (a || b) ≡ true
or-left true b h = refl
or-left false b h = absurd cc

pub or-right : (a b : Bool) → b ≡ true → (a || b) ≡ true
or-right true b h = refl
or-right false b h = h

pub or-cases : (a b : Bool) → (a || b) ≡ true → (a ≡ true) ⊎ (b ≡ true)
or-cases true b h = inl refl
or-cases false b h = inr h

cells-have : (cs : Cells) (m k : ℕ) (t : List Step) (x : program.Cell) → slice_get cs k ≡ Some x → names_cell false t x ≡ true → among (m + k) (cells_at m t cs) ≡ true
cells-have [] m k t x g h = absurd cc
cells-have (c ∷ cs) m zero t x g h = by (names_cell false t c) (ap (names_cell false t) (some_same g) ∙ h)
  where
    by : (b : Bool) → b ≡ true → among (m + zero) (if b then m ∷ cells_at (m + 1) t cs else cells_at (m + 1) t cs) ≡ true
    by true e = let z : m + zero ≡ m = omega arith in or-left (nat_eq (m + zero) m) (among (m + zero) (cells_at (m + 1) t cs)) (subst (λ n. nat_eq n m ≡ true) (sym z) (nat_eq-self m))
    by false e = absurd cc
cells-have (c ∷ cs) m (suc k) t x g h =
    let z : (m + 1) + k ≡ m + suc k = omega arith in
    by (names_cell false t c) (subst (λ n. among n (cells_at (m + 1) t cs) ≡ true) z (cells-have cs (m + 1) k t x g h))
  where
    by : (b : Bool) → among (m + suc k) (cells_at (m + 1) t cs) ≡ true → among (m + suc k) (if b then m ∷ cells_at (m + 1) t cs else cells_at (m + 1) t cs) ≡ true
    by true e = or-right (nat_eq (m + suc k) m) (among (m + suc k) (cells_at (m + 1) t cs)) e
    by false e = e

among-map : (f : ℕ → ℕ) (n : ℕ) (xs : List ℕ) → among n xs ≡ true → among (f n) (map f xs) ≡ true
among-map f n [] h = absurd cc
among-map f n (x ∷ xs) h = by (or-cases (nat_eq n x) (among n xs) h) (among-map f n xs)
  where
    by : (nat_eq n x ≡ true) ⊎ (among n xs ≡ true) → (among n xs ≡ true → among (f n) (map f xs) ≡ true) → (nat_eq (f n) (f x) || among (f n) (map f xs)) ≡ true
    by (inl e) ih = or-left (nat_eq (f n) (f x)) (among (f n) (map f xs)) (subst (λ y. nat_eq (f n) (f y) ≡ true) (nat_eq-is n x e) (nat_eq-self (f n)))
    by (inr e) ih = or-right (nat_eq (f n) (f x)) (among (f n) (map f xs)) (ih e)

-- the cell that a location has is among those that it names, where no cell stands past its sizes
pub named-among : (cs : Cells) (l : Left) (t s : List Step) (n : ℕ) (x : program.Cell) → is_sized cs l ≡ true → pattern cs l ≡ Some t → agrees t s ≡ true → cell_at false 0 s cs ≡ Some n → slice_get cs n ≡ Some x
    → among (root_of cs n) (cells_of cs l) ≡ true
named-among cs l t s n x h te ag ce g =
    let told = found-cell cs n s x ce g in
    let same : s ≡ steps_of x.name = fits-is s (steps_of x.name) (agrees-closed t s ag) told.1 in
    let a : agrees t (steps_of x.name) ≡ true = subst (λ z. agrees t z ≡ true) same ag in
    let two = all-at (λ c. not (agrees t (steps_of c.name)) || completes (Some t) c) cs n x (subst (λ o. all_agreeing cs (completes o) o ≡ true) te h) g in
    let f = or-second (not (agrees t (steps_of x.name))) (fits t (steps_of x.name)) two (not-true (agrees t (steps_of x.name)) a) in
    let has = cells-have cs 0 n t x g (and-both (fits t (steps_of x.name)) (not (is_pointer x.sort)) f (ap not told.0)) in
    let z : 0 + n ≡ n = omega arith in
    let m = among-map (root_of cs) n (cells_at 0 t cs) (subst (λ k. among k (cells_at 0 t cs) ≡ true) z has) in
    subst (λ o. among (root_of cs n) (unwrap_or (option_map (λ p. map (root_of cs) (cells_at 0 p cs)) o) []) ≡ true) (sym te) m

acts-append : (x y : Code) → acts (append x y) ≡ acts x ++ acts y
acts-append End y = refl
acts-append (Put p l k e r) y = rw (acts-append r y)
acts-append (Aim p to t r) y = rw (acts-append r y)
acts-append (If p t a b r) y = rw (acts-append r y) (simp append_assoc)
acts-append (Block p b r) y = rw (acts-append r y) (simp append_assoc)
acts-append (Loop p n b r) y = rw (acts-append r y) (simp append_assoc)
acts-append (Exit p n r) y = acts-append r y
acts-append (Wait p l n r) y = acts-append r y

module _ (cs : Cells) (Free : ℕ → Type 0) where
  abbrev pub AllFree : List ℕ → Type 0
  AllFree xs = (n : ℕ) → among n xs ≡ true → Free n

  abbrev pub writes : Code → List ℕ
  writes c = flat_map (writes_of cs) (acts c)

  free-append : (xs ys : List ℕ) → AllFree (xs ++ ys) → AllFree xs × AllFree ys
  free-append xs ys f = (
    λ n e. f n (list_any-append (nat_eq n) xs ys ∙ or-left (among n xs) (among n ys) e),
    λ n e. f n (list_any-append (nat_eq n) xs ys ∙ or-right (among n xs) (among n ys) e),
  )

  free-acts : (xs ys : List Act) → AllFree (flat_map (writes_of cs) (xs ++ ys)) → AllFree (flat_map (writes_of cs) xs) × AllFree (flat_map (writes_of cs) ys)
  free-acts xs ys f = free-append (flat_map (writes_of cs) xs) (flat_map (writes_of cs) ys) (subst AllFree (flat_map-append (writes_of cs) xs ys) f)

  free-both : (x y : Code) → AllFree (writes (append x y)) → AllFree (writes x) × AllFree (writes y)
  free-both x y f = free-acts (acts x) (acts y) (subst (λ z. AllFree (flat_map (writes_of cs) z)) (acts-append x y) f)

  abbrev pub chosen_of : Option Bool → Type 0 → Type 0 → Type 0
  chosen_of (Some true) A B = A
  chosen_of (Some false) A B = B
  chosen_of None A B = A × B

  -- what the live part writes is free
  abbrev pub Frees : Code → Type 0
  Frees End = Unit {0}
  Frees (Put p l k e r) = AllFree (cells_of cs l) × Frees r
  Frees (Aim p to t r) = Unit {0}
  Frees (If p t a b r) = chosen_of (goes cs t) (Frees a) (Frees b) × ((by_test (goes cs t) p t (alive cs a) (alive cs b)).ends ≡ true → Frees r)
  Frees (Block p b r) = Frees b × ((shut p (alive cs b)).ends ≡ true → Frees r)
  Frees (Loop p n b r) = Frees b
  Frees (Exit p n r) = Unit {0}
  Frees (Wait p l n r) = Frees r

  free-then : (e : Bool) (x y : Alive) → AllFree (writes (then_alive e x y).code) → AllFree (writes x.code) × (e ≡ true → AllFree (writes y.code))
  free-then true x y f = let b = free-both x.code y.code f in (b.0, λ e. b.1)
  free-then false x y f = (f, λ e. absurd cc)

  free-if : (g : Option Bool) (p : Place) (t : Term) (x y : Alive) → AllFree (writes (by_test g p t x y).code) → chosen_of g (AllFree (writes x.code)) (AllFree (writes y.code))
  free-if (Some true) p t x y f = f
  free-if (Some false) p t x y f = f
  free-if None p t x y f = let b = free-acts (acts x.code) (acts y.code ++ []) f in (b.0, (free-acts (acts y.code) [] b.1).0)

  free-loop : (e : Bool) (p : Place) (n : Option Count) (x : Alive) → AllFree (writes (looped e p n x).code) → AllFree (writes x.code)
  free-loop true p n x f = (free-acts (acts x.code) [] f).0
  free-loop false p n x f = f

  map-chosen : (g : Option Bool) {A B C D : Type 0} → (A → C) → (B → D) → chosen_of g A B → chosen_of g C D
  map-chosen (Some true) f g x = f x
  map-chosen (Some false) f g x = g x
  map-chosen None f g x = (f x.0, g x.1)

  pub frees : (c : Code) → AllFree (writes (live cs c)) → Frees c
  frees End f = tt
  frees (Put p l k e r) f = let b = free-append (cells_of cs l) (writes (live cs r)) f in (b.0, frees r b.1)
  frees (Aim p to t r) f = tt
  frees (If p t a b r) f =
      let x = by_test (goes cs t) p t (alive cs a) (alive cs b) in
      let u = free-then x.ends x (alive cs r) f in
      (map-chosen (goes cs t) (frees a) (frees b) (free-if (goes cs t) p t (alive cs a) (alive cs b) u.0), λ e. frees r (u.1 e))
  frees (Block p b r) f =
      let x = shut p (alive cs b) in
      let u = free-then x.ends x (alive cs r) f in
      (frees b (free-acts (acts (live cs b)) [] u.0).0, λ e. frees r (u.1 e))
  frees (Loop p n b r) f = frees b (free-loop (alive cs b).ends p n (alive cs b) f)
  frees (Exit p n r) f = tt
  frees (Wait p l n r) f = frees r f
