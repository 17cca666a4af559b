-- No constant is told of what some process writes, nor of inputs.
use Rattle.std.proofs.Common.{◌≡◌, ℕ, zero, suc, ◌+◌, Bool, true, false, not, ◌&&◌, nat_eq, List, [], ◌∷◌, Option, Some, None, refl, sym, ap, subst, ◌∙◌, arith}
use Rattle.std.specs.Prelude.{slice_get, option_and_then, flat_map}
use Rattle.std.proofs.lemmas.List.Folds.{list_any-append}
use Rattle.scc_semantics.specs.Location.{Location, same}
use Rattle.scc_core_spec.specs.Program.{Program, Process, Sort, Input, Output, Variable, Local, Pointer, Port, is_pointer, is_input}
use Rattle.scc_core_spec.specs.Program as program
use Rattle.scc_core_spec.specs.Static.{Cells, fixed_word}
use Rattle.scc_core_spec.specs.Uses.{among}
use Rattle.scc_core_spec.specs.Kept.{written_by}
use Rattle.scc_core_spec.specs.Constants.{written, constant_from, constant_if, constants_of}
use Rattle.scc_core_spec.specs.Source.{Home, cell_location, cell_there}
use Rattle.scc_blocks_spec.specs.Passed.{IsHome}
use Rattle.scc_states_laws.proofs.Values.{some_same}
use Rattle.scc_core_spec.specs.IsResolved.{IsResolved}
use Rattle.scc_core_resolved_laws.proofs.Bools.{and-first, nat_eq-is}
use Rattle.scc_core_resolved_laws.proofs.Writes.{or-left, or-right}
use Rattle.scc_core_resolved_laws.proofs.Assigned.{IsFree}
use Rattle.scc_core_resolved_laws.proofs.Apart.{locations-apart, find-is}

flat-has : {A : Type 0} (f : A → List ℕ) (xs : List A) (k n : ℕ) (x : A) → slice_get xs k ≡ Some x → among n (f x) ≡ true → among n (flat_map f xs) ≡ true
flat-has f [] k n x g h = absurd cc
flat-has f (y ∷ ys) zero n x g h = list_any-append (nat_eq n) (f y) (flat_map f ys) ∙ or-left (among n (f y)) (among n (flat_map f ys)) (subst (λ z. among n (f z) ≡ true) (sym (some_same g)) h)
flat-has f (y ∷ ys) (suc k) n x g h = list_any-append (nat_eq n) (f y) (flat_map f ys) ∙ or-right (among n (f y)) (among n (flat_map f ys)) (flat-has f ys k n x g h)

module _ (home : Home) (p : Program) where
  -- no constant is told of a location where each cell that stands there tells none
  pub none-from : (m : ℕ) (cs : Cells) (l : Location) → ((k : ℕ) (c : program.Cell) → slice_get cs k ≡ Some c → same (cell_location home p c) l ≡ true → constant_if (among (m + k) (written p)) c.sort ≡ None) → constant_from home p m cs l ≡ None
  none-from m [] l h = refl
  none-from m (c ∷ cs) l h = by (same (cell_location home p c) l && not (is_pointer c.sort)) refl (none-from (m + 1) cs l (λ k d g e. let n : (m + 1) + k ≡ m + suc k = omega arith in subst (λ n. constant_if (among n (written p)) d.sort ≡ None) (sym n) (h (suc k) d g e)))
    where
      by : (b : Bool) → (same (cell_location home p c) l && not (is_pointer c.sort)) ≡ b → constant_from home p (m + 1) cs l ≡ None → constant_from home p m (c ∷ cs) l ≡ None
      by true e i = let n : m + 0 ≡ m = omega arith in rw e (subst (λ n. constant_if (among n (written p)) c.sort ≡ None) n (h 0 c refl (and-first (same (cell_location home p c) l) (not (is_pointer c.sort)) e)))
      by false e i = rw e i

constant-free : (b : Bool) (s : Sort) → b ≡ true → constant_if b s ≡ None
constant-free true s e = refl
constant-free false s e = absurd cc

input-free : (b : Bool) (s : Sort) → is_input s ≡ true → constant_if b s ≡ None
input-free true s e = refl
input-free false Input e = refl
input-free false Output e = absurd cc
input-free false program.Signal e = absurd cc
input-free false (Variable w f) e = absurd cc
input-free false (Local i) e = absurd cc
input-free false (Pointer t) e = absurd cc
input-free false (Port r) e = absurd cc

input-plain : (s : Sort) → is_input s ≡ true → fixed_word s ≡ None
input-plain Input e = refl
input-plain Output e = absurd cc
input-plain program.Signal e = absurd cc
input-plain (Variable w f) e = absurd cc
input-plain (Local i) e = absurd cc
input-plain (Pointer t) e = absurd cc
input-plain (Port r) e = absurd cc

module _ (home : Home) (is : IsHome home) (p : Program) (r : IsResolved p) where
  -- a cell that stands where another does is that one
  here-only : (n k : ℕ) (x c : program.Cell) → slice_get p.cells n ≡ Some x → slice_get p.cells k ≡ Some c → same (cell_location home p c) (cell_location home p x) ≡ true → k ≡ n
  here-only n k x c g d e = nat_eq-is k n (sym (locations-apart home is p r k n c x d g) ∙ e)

  pub written-free : (i n : ℕ) (q : Process) → slice_get p.processes i ≡ Some q → among n (written_by p.cells q) ≡ true → IsFree (constants_of home p) home p n
  unfolding IsFree
  written-free i n q at w x g = none-from home p 0 p.cells (cell_location home p x) (λ k c d e. by k c (here-only n k x c g d e))
    where
      all : among n (written p) ≡ true
      all = flat-has (written_by p.cells) p.processes i n q at w

      by : (k : ℕ) (c : program.Cell) → k ≡ n → constant_if (among (0 + k) (written p)) c.sort ≡ None
      by k c h = let m : n ≡ 0 + k = omega (arith, h) in constant-free (among (0 + k) (written p)) c.sort (subst (λ j. among j (written p) ≡ true) m all)

  -- where an input stands nothing is fixed or constant
  pub input-constants : (n : ℕ) (x : program.Cell) → slice_get p.cells n ≡ Some x → is_input x.sort ≡ true → constants_of home p (cell_location home p x) ≡ None
  input-constants n x g t = none-from home p 0 p.cells (cell_location home p x) (λ k c d e. by k c d (here-only n k x c g d e))
    where
      by : (k : ℕ) (c : program.Cell) → slice_get p.cells k ≡ Some c → k ≡ n → constant_if (among (0 + k) (written p)) c.sort ≡ None
      by k c d h =
          let s : x ≡ c = some_same (sym g ∙ (ap (slice_get p.cells) (sym h) ∙ d)) in
          input-free (among (0 + k) (written p)) c.sort (subst (λ z. is_input z.sort ≡ true) s t)

  pub input-fixed : (n : ℕ) (x : program.Cell) → slice_get p.cells n ≡ Some x → is_input x.sort ≡ true → option_and_then (λ c. fixed_word c.sort) (cell_there home p false (cell_location home p x)) ≡ None
  input-fixed n x g t = by (cell_there home p false (cell_location home p x)) refl
    where
      by : (o : Option program.Cell) → cell_there home p false (cell_location home p x) ≡ o → option_and_then (λ c. fixed_word c.sort) o ≡ None
      by None e = refl
      by (Some c) e =
          let u = find-is (λ c. same (cell_location home p c) (cell_location home p x) && not (is_pointer c.sort)) p.cells c e in
          let h = and-first (same (cell_location home p c) (cell_location home p x)) (not (is_pointer c.sort)) u.2 in
          let k = here-only n u.0 x c g u.1 h in
          let s : x ≡ c = some_same (sym g ∙ (ap (slice_get p.cells) (sym k) ∙ u.1)) in
          subst (λ z. fixed_word z.sort ≡ None) s (input-plain x.sort t)
