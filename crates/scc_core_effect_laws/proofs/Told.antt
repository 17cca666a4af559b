-- What it tells that no rule is broken.
use Rattle.std.proofs.Common.{◌≡◌, ℕ, zero, suc, ◌<◌, Bool, true, false, ◌&&◌, ◌||◌, nat_eq, nat_lt, List, [], ◌∷◌, ◌++◌, map, flat_map, Option, Some, None, refl, sym, ap, ◌∙◌, subst, arith, if◌then◌else◌, slice_get, ◌⊎◌, inl, inr}
use Rattle.std.specs.Prelude.{option_map}
use Rattle.std.specs.List.{list_any}
use Rattle.std.proofs.lemmas.List.Folds.{list_any-append}
use Rattle.std.proofs.lemmas.Option.{slice_get-map}
use Rattle.scc_base.specs.declared.refusal.Refusal.{Refusal}
use Rattle.scc_base.specs.declared.code.Code.{Code as Reason}
use Rattle.scc_base.specs.declared.code.Code.TheVariants as reason
use Rattle.scc_core_spec.specs.Program.{Program, Process, is_root, is_variable}
use Rattle.scc_core_spec.specs.Static.{Cells}
use Rattle.scc_core_spec.specs.Live.{live}
use Rattle.scc_core_spec.specs.Flow.{flow}
use Rattle.scc_core_spec.specs.Uses.{Act, reads_of, writes_of, has_sort, among}
use Rattle.scc_core_spec.specs.Clashes.{live_acts, names_of, Conflict, both_write, both_name, clash_of, first_clash, two_writers, shared_variable}
use Rattle.scc_core_spec.specs.First.{or_else, first_some, first_of, when, refused, refused_beside}
use Rattle.scc_core_spec.specs.Kept.{OneOf, written_by}
use Rattle.scc_core_spec.specs.Rules.{first_rule, watched, comb_state, clock_as_data, missing_sensitivity, latch, comb_loop, wait_in_method, loop_may_not_wait, end_reached, signal_index}
use Rattle.scc_blocks_spec.specs.Passed.{all_named}
use Rattle.scc_core_effect_laws.specs.Follows.{Obeys}
use Rattle.scc_core_effect_laws.proofs.Names.{and-both, or-left, or-right, some-same, none-some, true-false}
use Rattle.scc_core_effect_laws.proofs.Lateness.{told, grow}
use Rattle.scc_core_effect_laws.proofs.Unsure.{flat-in}

pub or-none : {A : Type 0} (o q : Option A) → or_else o q ≡ None → (o ≡ None) × (q ≡ None)
or-none None q e = (refl, e)
or-none (Some a) q e = none-some a (sym e)

-- no element of a walk without an answer has one
pub first-none : {A B : Type 0} (f : A → Option B) (xs : List A) (x : A) → first_of f xs ≡ None → OneOf x xs → f x ≡ None
first-none f [] x e o = absurd o
first-none f (y ∷ xs) x e (inl q) = ap f q ∙ (or-none (f y) (first_of f xs) e).0
first-none f (y ∷ xs) x e (inr o) = first-none f xs x (or-none (f y) (first_of f xs) e).1 o

pub one-at : {A : Type 0} (xs : List A) (n : ℕ) (x : A) → slice_get xs n ≡ Some x → OneOf x xs
one-at [] n x e = none-some x e
one-at (y ∷ xs) zero x e = inl (sym (some-same y x e))
one-at (y ∷ xs) (suc n) x e = inr (one-at xs n x e)

one-first : {A : Type 0} (x : A) (xs ys : List A) → OneOf x xs → OneOf x (xs ++ ys)
one-first x [] ys o = absurd o
one-first x (y ∷ xs) ys (inl q) = inl q
one-first x (y ∷ xs) ys (inr o) = inr (one-first x xs ys o)

one-last : {A : Type 0} (x : A) (xs : List A) → OneOf x (xs ++ x ∷ [])
one-last x [] = inl refl
one-last x (y ∷ xs) = inr (one-last x xs)

pub when-none : {A : Type 0} (b : Bool) (a : A) → when b a ≡ None → b ≡ false
when-none true a e = none-some a (sym e)
when-none false a e = refl

pub any-true : (test : ℕ → Bool) (x : ℕ) (xs : List ℕ) → among x xs ≡ true → test x ≡ true → list_any test xs ≡ true
any-true test x [] e t = e
any-true test x (y ∷ xs) e t = by (nat_eq x y) refl e (λ h. any-true test x xs h t)
  where
    equal : nat_eq x y ≡ true → x ≡ y
    equal h = grind arith

    by : (b : Bool) → nat_eq x y ≡ b → (b || among x xs) ≡ true → (among x xs ≡ true → list_any test xs ≡ true) → (test y || list_any test xs) ≡ true
    by true q e more = or-left _ _ (ap test (sym (equal q)) ∙ t)
    by false q e more = or-right _ _ (more e)

-- no two processes conflict
no-clash : (code : Reason) (conflict : Conflict) (cs : Cells) (before all : List (List Act)) → first_clash code conflict cs before all ≡ None → (j : ℕ) (later earlier : List Act) → slice_get all j ≡ Some later
    → (OneOf earlier before ⊎ ((m : ℕ) × (m < j) × (slice_get all m ≡ Some earlier))) → (a b : Act) → OneOf a later → OneOf b earlier → conflict cs later earlier a b ≡ false
no-clash code conflict cs before [] e j later earlier f o a b x y = none-some later f
no-clash code conflict cs before (l ∷ rest) e zero later earlier f (inl o) a b x y =
    let none = (or-none (first_of (clash_of code conflict cs l before) l) _ e).0 in
    let at-a = first-none (clash_of code conflict cs l before) l a none (subst (OneOf a) (sym (some-same l later f)) x) in
    let at-e = first-none (λ earlier. first_of (λ b. when (conflict cs l earlier a b) (refused_beside code a.place b.place)) earlier) before earlier at-a o in
    let at-b = first-none (λ b. when (conflict cs l earlier a b) (refused_beside code a.place b.place)) earlier b at-e y in
    ap (λ l. conflict cs l earlier a b) (sym (some-same l later f)) ∙ when-none (conflict cs l earlier a b) _ at-b
no-clash code conflict cs before (l ∷ rest) e zero later earlier f (inr m) a b x y = absurd (let n = m.1 in grind (arith, n))
no-clash code conflict cs before (l ∷ rest) e (suc j) later earlier f o a b x y =
    no-clash code conflict cs (before ++ l ∷ []) rest (or-none (first_of (clash_of code conflict cs l before) l) _ e).1 j later earlier f (moved o) a b x y
  where
    there : (m : ℕ) → m < suc j → slice_get (l ∷ rest) m ≡ Some earlier → OneOf earlier (before ++ l ∷ []) ⊎ ((m : ℕ) × (m < j) × (slice_get rest m ≡ Some earlier))
    there zero h g = inl (subst (λ z. OneOf z (before ++ l ∷ [])) (some-same l earlier g) (one-last l before))
    there (suc m) h g = inr (m, omega (arith, h), g)

    moved : (OneOf earlier before ⊎ ((m : ℕ) × (m < suc j) × (slice_get (l ∷ rest) m ≡ Some earlier))) → OneOf earlier (before ++ l ∷ []) ⊎ ((m : ℕ) × (m < j) × (slice_get rest m ≡ Some earlier))
    moved (inl o) = inl (one-first earlier before (l ∷ []) o)
    moved (inr m) = there m.0 m.1 m.2

-- equal, or one comes first
order : (i j : ℕ) → (i ≡ j) ⊎ ((i < j) ⊎ (j < i))
order i j = by (nat_lt i j) refl (nat_lt j i) refl
  where
    by : (a : Bool) → nat_lt i j ≡ a → (b : Bool) → nat_lt j i ≡ b → (i ≡ j) ⊎ ((i < j) ⊎ (j < i))
    by true e b f = inr (inl (grind (arith, e)))
    by false e true f = inr (inr (grind (arith, f)))
    by false e false f = inl (grind (arith, e, f))

module _ (p : Program) (none : first_rule p ≡ None) where
  abbrev cs : Cells
  cs = p.cells

  abbrev said : List (List Act)
  said = map (live_acts cs) p.processes

  after-first : or_else (two_writers p) (first_some (shared_variable p ∷ missing_sensitivity p ∷ latch p ∷ comb_loop p ∷ comb_state p ∷ wait_in_method p ∷ loop_may_not_wait p ∷ end_reached p ∷ signal_index p ∷ [])) ≡ None
  after-first = (or-none (clock_as_data p) _ none).1

  writers-none : two_writers p ≡ None
  writers-none = (or-none (two_writers p) _ after-first).0

  after-second : or_else (shared_variable p) (first_some (missing_sensitivity p ∷ latch p ∷ comb_loop p ∷ comb_state p ∷ wait_in_method p ∷ loop_may_not_wait p ∷ end_reached p ∷ signal_index p ∷ [])) ≡ None
  after-second = (or-none (two_writers p) _ after-first).1

  shared-none : shared_variable p ≡ None
  shared-none = (or-none (shared_variable p) _ after-second).0

  state-none : comb_state p ≡ None
  state-none =
      let a = (or-none (shared_variable p) _ after-second).1 in
      let b = (or-none (missing_sensitivity p) _ a).1 in
      let c = (or-none (latch p) _ b).1 in
      let d = (or-none (comb_loop p) _ c).1 in
      (or-none (comb_state p) _ d).0

  acts-at : (i : ℕ) (q : Process) → slice_get p.processes i ≡ Some q → slice_get said i ≡ Some (live_acts cs q)
  acts-at i q e = slice_get-map (live_acts cs) p.processes i ∙ ap (option_map (live_acts cs)) e

  apart : (code : Reason) (conflict : Conflict) → first_clash code conflict cs [] said ≡ None → (i j : ℕ) (q r : Process) → slice_get p.processes i ≡ Some q → slice_get p.processes j ≡ Some r → i < j
      → (a b : Act) → OneOf a (live_acts cs r) → OneOf b (live_acts cs q) → conflict cs (live_acts cs r) (live_acts cs q) a b ≡ false
  apart code conflict e i j q r f g l = no-clash code conflict cs [] said e j (live_acts cs r) (live_acts cs q) (acts-at j r g) (inr (i, l, acts-at i q f))

  write-clash : (i j x : ℕ) (q r : Process) → slice_get p.processes i ≡ Some q → slice_get p.processes j ≡ Some r → has_sort is_root cs x ≡ true → among x (written_by cs q) ≡ true → among x (written_by cs r) ≡ true → i < j → ⊥
  write-clash i j x q r f g root w v l =
      let b = flat-in (writes_of cs) x (live_acts cs q) w in
      let a = flat-in (writes_of cs) x (live_acts cs r) v in
      true-false (sym (any-true (λ x. has_sort is_root cs x && among x (writes_of cs b.1)) x (writes_of cs a.1) a.3 (and-both _ _ root b.3))
      ∙ apart reason.TwoWriters both_write writers-none i j q r f g l a.1 b.1 (one-at (live_acts cs r) a.0 a.1 a.2) (one-at (live_acts cs q) b.0 b.1 b.2))

  name-clash : (i j x : ℕ) (q r : Process) → slice_get p.processes i ≡ Some q → slice_get p.processes j ≡ Some r → has_sort is_variable cs x ≡ true → among x (all_named cs q) ≡ true → among x (all_named cs r) ≡ true
      → ((among x (written_by cs q) ≡ true) ⊎ (among x (written_by cs r) ≡ true)) → i < j → ⊥
  name-clash i j x q r f g variable w v which l =
      let b = flat-in (names_of cs) x (live_acts cs q) w in
      let a = flat-in (names_of cs) x (live_acts cs r) v in
      true-false (sym (any-true (λ x. has_sort is_variable cs x && (among x (names_of cs b.1) && (among x (written_by cs r) || among x (written_by cs q)))) x (names_of cs a.1) a.3 (and-both _ _ variable (and-both _ _ b.3 (by which))))
      ∙ apart reason.SharedVariable both_name shared-none i j q r f g l a.1 b.1 (one-at (live_acts cs r) a.0 a.1 a.2) (one-at (live_acts cs q) b.0 b.1 b.2))
    where
      by : ((among x (written_by cs q) ≡ true) ⊎ (among x (written_by cs r) ≡ true)) → (among x (written_by cs r) || among x (written_by cs q)) ≡ true
      by (inl h) = or-right _ _ h
      by (inr h) = or-left _ _ h

  written-named : (q : Process) (x : ℕ) → among x (written_by cs q) ≡ true → among x (all_named cs q) ≡ true
  written-named q x e =
      let m = flat-in (writes_of cs) x (live_acts cs q) e in
      has (live_acts cs q) m.0 m.1 m.2 (list_any-append (nat_eq x) (reads_of cs m.1) (writes_of cs m.1) ∙ or-right _ _ m.3)
    where
      has : (as' : List Act) (n : ℕ) (a : Act) → slice_get as' n ≡ Some a → among x (names_of cs a) ≡ true → among x (flat_map (names_of cs) as') ≡ true
      has [] n a e h = none-some a e
      has (b ∷ bs) zero a e h = list_any-append (nat_eq x) (names_of cs b) (flat_map (names_of cs) bs) ∙ or-left _ _ (ap (λ a. among x (names_of cs a)) (some-same b a e) ∙ h)
      has (b ∷ bs) (suc n) a e h = list_any-append (nat_eq x) (names_of cs b) (flat_map (names_of cs) bs) ∙ or-right _ _ (has bs n a e h)

  none-of : {A B : Type 0} (f : A → B) (xs : List A) → first_of (λ x. Some (f x)) xs ≡ None → xs ≡ []
  none-of f [] e = refl
  none-of f (x ∷ xs) e = none-some (f x) (sym e)

  no-early : (i : ℕ) (q : Process) → slice_get p.processes i ≡ Some q → q.is_thread ≡ false → (flow cs (live cs q.body) (watched p q)).early ≡ []
  no-early i q e t =
      let said : Process → Option Refusal = λ q. if q.is_thread then None else first_of (λ m. Some (refused reason.CombState m.0)) (flow p.cells (live p.cells q.body) (watched p q)).early in
      let here = first-none said p.processes q state-none (one-at p.processes i q e) in
      none-of (λ m. refused reason.CombState m.0) (flow cs (live cs q.body) (watched p q)).early
      (ap (λ b. if b then None else first_of (λ m. Some (refused reason.CombState m.0)) (flow p.cells (live p.cells q.body) (watched p q)).early) (sym t) ∙ here)

  pub obeys : Obeys p
  obeys = record {
    writers = λ i j x q r f g root w v. by-writers i j x q r f g root w v (order i j);
    shared = λ i j x q r f g variable n v. by-names i j x q r f g variable n v (order i j);
    late = λ i x q e t w. grow cs (live cs q.body) (nat_eq x) (λ y. watched p q) (λ y h. ap (watched p q) (equal x y h) ∙ w) (λ y h. told cs (live cs q.body) (watched p q) (no-early i q e t));
  }
    where
      equal : (x y : ℕ) → nat_eq x y ≡ true → y ≡ x
      equal x y h = grind (arith, h)

      by-writers : (i j x : ℕ) (q r : Process) → slice_get p.processes i ≡ Some q → slice_get p.processes j ≡ Some r → has_sort is_root cs x ≡ true → among x (written_by cs q) ≡ true → among x (written_by cs r) ≡ true
          → ((i ≡ j) ⊎ ((i < j) ⊎ (j < i))) → i ≡ j
      by-writers i j x q r f g root w v (inl e) = e
      by-writers i j x q r f g root w v (inr (inl l)) = absurd (write-clash i j x q r f g root w v l)
      by-writers i j x q r f g root w v (inr (inr l)) = absurd (write-clash j i x r q g f root v w l)

      by-names : (i j x : ℕ) (q r : Process) → slice_get p.processes i ≡ Some q → slice_get p.processes j ≡ Some r → has_sort is_variable cs x ≡ true → among x (all_named cs q) ≡ true → among x (written_by cs r) ≡ true
          → ((i ≡ j) ⊎ ((i < j) ⊎ (j < i))) → i ≡ j
      by-names i j x q r f g variable n v (inl e) = e
      by-names i j x q r f g variable n v (inr (inl l)) = absurd (name-clash i j x q r f g variable n (written-named r x v) (inr v) l)
      by-names i j x q r f g variable n v (inr (inr l)) = absurd (name-clash j i x r q g f variable (written-named r x v) n (inl v) l)
