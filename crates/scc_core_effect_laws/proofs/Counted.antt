-- An order has no more members than there are combinational methods.
use Rattle.std.proofs.Common.{◌≡◌, ℕ, suc, ◌+◌, ◌≤◌, Bool, true, false, not, ◌||◌, nat_eq, cond, List, [], ◌∷◌, ◌++◌, length, filter, Some, refl, sym, ap, ◌∙◌, subst, arith, if◌then◌else◌, slice_get}
use Rattle.std.specs.Prelude.{option_map, unwrap_or}
use Rattle.std.specs.List.{range_with_len}
use Rattle.std.proofs.lemmas.List.Folds.{list_any-append}
use Rattle.scc_core_spec.specs.Program.{Program, Process, is_combinational}
use Rattle.scc_core_spec.specs.Uses.{among}
use Rattle.scc_core_spec.specs.Feeding.{Feeds, is_method, methods, IsOrderFrom, done, next, IsOrder}
use Rattle.scc_core_effect_laws.proofs.Names.{and-first, or-left, or-right, true-false, not-true}
use Rattle.scc_core_effect_laws.proofs.Unsure.{is-false}

abbrev Distinct : List ℕ → Type 0
Distinct [] = Unit {0}
Distinct (x ∷ xs) = (among x xs ≡ false) × Distinct xs

pub dropped : ℕ → List ℕ → List ℕ
dropped x [] = []
dropped x (y ∷ ys) = if nat_eq x y then ys else y ∷ dropped x ys

pub drop-length : (x : ℕ) (ys : List ℕ) → among x ys ≡ true → suc (length (dropped x ys)) ≡ length ys
unfolding dropped
drop-length x [] e = true-false (sym e)
drop-length x (y ∷ ys) e = by (nat_eq x y) e (λ h. drop-length x ys h)
  where
    by : (b : Bool) → (b || among x ys) ≡ true → (among x ys ≡ true → suc (length (dropped x ys)) ≡ length ys) → suc (length (if b then ys else y ∷ dropped x ys)) ≡ suc (length ys)
    by true e more = refl
    by false e more = ap suc (more e)

pub drop-keeps : (x k : ℕ) (ys : List ℕ) → among k ys ≡ true → nat_eq k x ≡ false → among k (dropped x ys) ≡ true
unfolding dropped
drop-keeps x k [] e n = e
drop-keeps x k (y ∷ ys) e n = by (nat_eq x y) refl (nat_eq k y) refl e (λ h. drop-keeps x k ys h n)
  where
    same : nat_eq x y ≡ true → nat_eq k y ≡ true → nat_eq k x ≡ true
    same a b = grind arith

    by : (a : Bool) → nat_eq x y ≡ a → (b : Bool) → nat_eq k y ≡ b → (b || among k ys) ≡ true → (among k ys ≡ true → among k (dropped x ys) ≡ true) → among k (if a then ys else y ∷ dropped x ys) ≡ true
    by true p true q e more = true-false (sym (same p q) ∙ n)
    by true p false q e more = e
    by false p true q e more = or-left _ _ q
    by false p false q e more = or-right _ _ (more e)

no-longer : (xs ys : List ℕ) → Distinct xs → ((k : ℕ) → among k xs ≡ true → among k ys ≡ true) → length xs ≤ length ys
no-longer [] ys d h = omega arith
no-longer (x ∷ xs) ys d h =
    let more = no-longer xs (dropped x ys) d.1 (λ k a. drop-keeps x k ys (h k (or-right _ _ a)) (apart k a)) in
    let len = drop-length x ys (h x (or-left _ _ (self x))) in
    omega (arith, more, len)
  where
    self : (x : ℕ) → nat_eq x x ≡ true
    self x = grind arith

    equal : (k : ℕ) → nat_eq k x ≡ true → k ≡ x
    equal k e = grind arith

    apart : (k : ℕ) → among k xs ≡ true → nat_eq k x ≡ false
    apart k a = is-false _ (λ e. true-false (sym a ∙ ap (λ k. among k xs) (equal k e) ∙ d.0))

record Orderly (all placed rest : List ℕ) : Type 0 where
  distinct : Distinct rest
  fresh : (k : ℕ) → among k placed ≡ true → among k rest ≡ false
  within : (k : ℕ) → among k rest ≡ true → among k all ≡ true

orderly : {f : Feeds} {all placed rest : List ℕ} → IsOrderFrom f all placed rest → Orderly all placed rest
orderly (done placed h) = record { distinct = tt; fresh = λ k a. refl; within = λ k a. true-false (sym a) }
orderly {all = all} (next {rest = rest} placed i a r least more) = by (orderly more)
  where
    self : (x : ℕ) → nat_eq x x ≡ true
    self x = grind arith

    equal : (k : ℕ) → nat_eq k i ≡ true → k ≡ i
    equal k e = grind arith

    last : (k : ℕ) → nat_eq k i ≡ true → among k (placed ++ i ∷ []) ≡ true
    last k e = list_any-append (nat_eq k) placed (i ∷ []) ∙ or-right _ _ (or-left _ _ e)

    front : (k : ℕ) → among k placed ≡ true → among k (placed ++ i ∷ []) ≡ true
    front k e = list_any-append (nat_eq k) placed (i ∷ []) ∙ or-left _ _ e

    by : Orderly all (placed ++ i ∷ []) rest → Orderly all placed (i ∷ rest)
    by o = record {
      distinct = (o.fresh i (last i (self i)), o.distinct);
      fresh = λ k e. neither (nat_eq k i) (among k rest) (is-false _ (λ n. true-false (sym e ∙ ap (λ k. among k placed) (equal k n) ∙ not-true (among i placed) (and-first (not (among i placed)) _ r)))) (o.fresh k (front k e));
      within = λ k e. which k (nat_eq k i) refl e;
    }
      where
        neither : (a b : Bool) → a ≡ false → b ≡ false → (a || b) ≡ false
        neither true b e f = e
        neither false b e f = f

        which : (k : ℕ) (b : Bool) → nat_eq k i ≡ b → (b || among k rest) ≡ true → among k all ≡ true
        which k true q e = ap (λ k. among k all) (equal k q) ∙ a
        which k false q e = o.within k e

methods-count : (p : Program) (qs : List Process) (a : ℕ) → ((k : ℕ) → slice_get p.processes (a + k) ≡ slice_get qs k) → length (filter (is_method p) (range_with_len a (length qs))) ≡ length (filter is_combinational qs)
methods-count p [] a h = refl
methods-count p (q ∷ qs) a h = by (is_method p a) (is_combinational q) (ap (λ o. unwrap_or (option_map is_combinational o) false) here) (methods-count p qs (a + 1) later)
  where
    here : slice_get p.processes a ≡ Some q
    here = ap (slice_get p.processes) first ∙ h 0
      where
        first : a ≡ a + 0
        first = omega arith

    later : (k : ℕ) → slice_get p.processes ((a + 1) + k) ≡ slice_get qs k
    later k = ap (slice_get p.processes) move ∙ h (suc k)
      where
        move : (a + 1) + k ≡ a + suc k
        move = omega arith

    xs : List ℕ
    xs = filter (is_method p) (range_with_len (a + 1) (length qs))

    by : (b c : Bool) → b ≡ c → length xs ≡ length (filter is_combinational qs) → length (cond b (a ∷ xs) xs) ≡ length (cond c (q ∷ filter is_combinational qs) (filter is_combinational qs))
    by true true e m = ap suc m
    by false false e m = m
    by true false e m = true-false e
    by false true e m = true-false (sym e)

pub short : (p : Program) (order : List ℕ) → IsOrder p order → length order ≤ length (filter is_combinational p.processes)
short p order o =
    let m = orderly o in
    subst (λ n. length order ≤ n) (methods-count p p.processes 0 (λ k. ap (slice_get p.processes) (from k))) (no-longer order (methods p) m.distinct m.within)
  where
    from : (k : ℕ) → 0 + k ≡ k
    from k = omega arith
