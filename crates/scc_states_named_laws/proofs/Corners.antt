-- An array of which the cells stand one after the other is found by its first and its last cell.
use Rattle.std.proofs.Common.{◌≡◌, ◌<◌, ◌≤◌, ◌+◌, ◌-◌, ◌*◌, ℕ, zero, suc, Bool, true, false, List, [], ◌∷◌, ◌++◌, map, Option, Some, None, refl, sym, ap, subst, ◌∙◌, arith, if◌then◌else◌}
use Rattle.std.specs.Prelude.{nat_eq, nat_lt, option_and_then}
use Rattle.std.proofs.lemmas.Bool.Decides.{nat_tests}
use Rattle.std.proofs.lemmas.Nat.{mul-le}
use Rattle.std.proofs.Math.Nat.{mul_assoc, suc-mul}
use denote.Ref.{Bor}
use Rattle.scc_base.specs.declared.names.Name.{Name}
use Rattle.scc_base.specs.declared.path.PathPart.{PathPart}
use Rattle.scc_bits.specs.Value.{Number}
use Rattle.scc_core.specs.declared.places.NameStep.{NameStep}
use Rattle.scc_core.specs.declared.places.NameStep.TheVariants as step
use Rattle.scc_core.specs.declared.places.Places.{Places}
use Rattle.scc_core.specs.declared.places.Spot.{Spot}
use Rattle.scc_core.specs.declared.program.Cell.{Cell}
use Rattle.scc_core.specs.declared.program.CellName.{CellName}
use Rattle.scc_core.specs.Elements.{Part, Element}
use Rattle.scc_core.specs.Located.{array_from, array_in, between}
use Rattle.scc_core.specs.Names.{cell_at as at_spot, leads, name_spot, of_indices, of_path, past_local, step_of, walk}
use Rattle.scc_core.specs.Tables.{known, own_steps, steps_of, top}
use Rattle.scc_core_spec.specs.Named.{Step, At, Open, cell_at}
use Rattle.scc_core_spec.specs.Named as spec
use Rattle.scc_core_spec.specs.Static.{Cells}
use Rattle.scc_core_view.specs.Programs.{cell_of}
use Rattle.scc_core_view.specs.Steps.{step_in}
use Rattle.scc_core_view.specs.Terms.{name_of}
use Rattle.scc_core_view.specs.Whole.{IsName}
use Rattle.scc_core_view.proofs.Tables.{cells_same}
use Rattle.scc_core_static_laws.specs.Held.{HasTable}
use Rattle.scc_states_named_laws.specs.Arrays.{AreIndices, done, unknown, static, StandsInRows, size_of}
use Rattle.scc_states_named_laws.proofs.Closed.{same_test, some_same}
use Rattle.scc_states_named_laws.proofs.Names.{append_map, steps_same}
use Rattle.scc_states_named_laws.proofs.Strides.{next_row, some_row}

-- ---- walks along a table

walk_on : (p : Places) (at : Spot) (xs ys : List (Option NameStep)) → walk p at (xs ++ ys) ≡ option_and_then (λ to. walk p to ys) (walk p at xs)
walk_on p at [] ys = refl
walk_on p at (x ∷ xs) ys = by (option_and_then (leads p at) x) (λ to. walk_on p to xs ys)
  where
    by : (o : Option Spot) → ((to : Spot) → walk p to (xs ++ ys) ≡ option_and_then (λ to. walk p to ys) (walk p to xs))
        → option_and_then (λ to. walk p to (xs ++ ys)) o ≡ option_and_then (λ to. walk p to ys) (option_and_then (λ to. walk p to xs) o)
    by None h = refl
    by (Some to) h = h to

known_path : (path : List PathPart) → known (map step_of path) ≡ of_path path
known_path [] = refl
known_path (x ∷ path) = ap (λ l. Some (step_of x) ∷ l) (known_path path)

known_indices : (is : List ℕ) → known (map step.Index is) ≡ of_indices is
known_indices [] = refl
known_indices (i ∷ is) = ap (λ l. Some (step.Index i) ∷ l) (known_indices is)

known_on : (xs ys : List NameStep) → known (xs ++ ys) ≡ known xs ++ known ys
known_on [] ys = refl
known_on (x ∷ xs) ys = ap (λ l. Some x ∷ l) (known_on xs ys)

-- past a path stand a local and its indices
own_spot : (p : Places) (local : Option (ℕ × Name)) (is : List ℕ) → (local ≡ None → is ≡ []) → (at : Spot)
    → walk p at (known (own_steps local is)) ≡ option_and_then (λ at. walk p at (of_indices is)) (past_local p local at)
own_spot p None is h at = ap (λ is. walk p at (of_indices is)) (sym (h refl))
own_spot p (Some l) is h at = ap (λ ss. option_and_then (λ to. walk p to ss) (leads p at (step.Local l.0))) (known_indices is)

name_walk : (p : Places) (name : CellName) → IsName name → walk p top (known (steps_of name)) ≡ name_spot p name
name_walk p name h =
    ap (walk p top) (known_on (map step_of name.path) (own_steps name.local name.indices))
    ∙ walk_on p top (known (map step_of name.path)) (known (own_steps name.local name.indices))
    ∙ ap (λ ss. option_and_then (λ to. walk p to (known (own_steps name.local name.indices))) (walk p top ss)) (known_path name.path)
    ∙ by (walk p top (of_path name.path))
  where
    by : (o : Option Spot) → option_and_then (λ to. walk p to (known (own_steps name.local name.indices))) o ≡ option_and_then (λ at. walk p at (of_indices name.indices)) (option_and_then (past_local p name.local) o)
    by None = refl
    by (Some at) = own_spot p name.local name.indices h at

-- ---- corners

abbrev Inside : List ℕ → List ℕ → Type 0
Inside [] [] = Unit {0}
Inside [] (s ∷ ss) = ⊥
Inside (i ∷ is) [] = ⊥
Inside (i ∷ is) (s ∷ ss) = (i < s) × Inside is ss

abbrev place_of : List ℕ → List ℕ → ℕ
place_of [] ss = 0
place_of (i ∷ is) [] = 0
place_of (i ∷ is) (s ∷ ss) = i * size_of ss + place_of is ss

abbrev firsts : List ℕ → List ℕ
firsts [] = []
firsts (s ∷ ss) = 0 ∷ firsts ss

abbrev lasts : List ℕ → List ℕ
lasts [] = []
lasts (s ∷ ss) = (s - 1) ∷ lasts ss

all_some : {qs : List Part} {ps : List Step} {ss : List ℕ} → AreIndices qs ps ss → Inside (firsts ss) ss × Inside (lasts ss) ss
all_some done = (tt, tt)
all_some (unknown s pos r) = let h = all_some r in ((pos, h.0), (omega (arith, pos), h.1))
all_some (static s i v below sm r) = let h = all_some r in ((omega (arith, below), h.0), (omega (arith, below), h.1))

pub some_cells : {qs : List Part} {ps : List Step} {ss : List ℕ} → AreIndices qs ps ss → 0 < size_of ss
some_cells done = omega arith
some_cells (unknown {ss = ss} s pos r) = at_least (size_of ss) (s * size_of ss) (some_cells r) (some_row s (size_of ss) pos)
  where
    at_least : (p q : ℕ) → 0 < p → p ≤ q → 0 < q
    at_least p q h k = omega (arith, h, k)
some_cells (static {ss = ss} s i v below sm r) = at_least (i * size_of ss) (size_of ss) (s * size_of ss) (some_cells r) (next_row i s (size_of ss) below)
  where
    at_least : (k p q : ℕ) → 0 < p → k + p ≤ q → 0 < q
    at_least k p q h m = omega (arith, h, m)

first_place : {qs : List Part} {ps : List Step} {ss : List ℕ} → AreIndices qs ps ss → place_of (firsts ss) ss ≡ 0
first_place done = refl
first_place (unknown {ss = ss} s pos r) = ap (λ z. 0 * size_of ss + z) (first_place r) ∙ none (size_of ss)
  where
    none : (p : ℕ) → 0 * p + 0 ≡ 0
    none p = grind arith
first_place (static {ss = ss} s i v below sm r) = ap (λ z. 0 * size_of ss + z) (first_place r) ∙ none (size_of ss)
  where
    none : (p : ℕ) → 0 * p + 0 ≡ 0
    none p = grind arith

last_row : (s p z : ℕ) → 0 < s → z + 1 ≡ p → (s - 1) * p + z + 1 ≡ s * p
last_row (suc k) p z h e = let m : suc k * p ≡ k * p + p = suc-mul k p in let d : suc k - 1 ≡ k = omega arith in ap (λ n. n * p + z + 1) d ∙ joined (k * p) p z (suc k * p) e m
  where
    joined : (kp p z sp : ℕ) → z + 1 ≡ p → sp ≡ kp + p → kp + z + 1 ≡ sp
    joined kp p z sp e m = omega (arith, e, m)
last_row zero p z h e = absurd (no_less h)
  where
    no_less : 0 < 0 → ⊥
    no_less h = omega (arith, h)

last_place : {qs : List Part} {ps : List Step} {ss : List ℕ} → AreIndices qs ps ss → place_of (lasts ss) ss + 1 ≡ size_of ss
last_place done = refl
last_place (unknown {ss = ss} s pos r) = last_row s (size_of ss) (place_of (lasts ss) ss) pos (last_place r)
last_place (static {ss = ss} s i v below sm r) = last_row s (size_of ss) (place_of (lasts ss) ss) (omega (arith, below)) (last_place r)

no_more : {A : Type 0} (xs : List A) → xs ++ [] ≡ xs
no_more [] = refl
no_more (x ∷ xs) = ap (λ ys. x ∷ ys) (no_more xs)

append_three : {A : Type 0} (xs : List A) (y : A) (ys : List A) → (xs ++ y ∷ []) ++ ys ≡ xs ++ y ∷ ys
append_three [] y ys = refl
append_three (x ∷ xs) y ys = ap (λ zs. x ∷ zs) (append_three xs y ys)

stands_at : (cs : Cells) (is ss : List ℕ) (q : List Step) (first : ℕ) → StandsInRows cs q ss first → Inside is ss → cell_at false 0 (q ++ map At is) cs ≡ Some (first + place_of is ss)
stands_at cs [] [] q first h inside = ap (λ z. cell_at false 0 z cs) (no_more q) ∙ h ∙ ap Some (plus first)
  where
    plus : (n : ℕ) → n ≡ n + 0
    plus n = omega arith
stands_at cs [] (s ∷ ss) q first h inside = absurd inside
stands_at cs (i ∷ is) [] q first h inside = absurd inside
stands_at cs (i ∷ is) (s ∷ ss) q first h inside =
    ap (λ z. cell_at false 0 z cs) (sym (append_three q (At i) (map At is))) ∙ stands_at cs is ss (q ++ At i ∷ []) (first + i * size_of ss) (h i inside.0) inside.1 ∙ ap Some (regroup first (i * size_of ss) (place_of is ss))
  where
    regroup : (a b c : ℕ) → a + b + c ≡ a + (b + c)
    regroup a b c = omega arith

indices_in : (is : List ℕ) → map step_in (map step.Index is) ≡ map At is
indices_in [] = refl
indices_in (i ∷ is) = ap (λ l. At i ∷ l) (indices_in is)

module _ (p : Places) (cells : List Cell) (table : HasTable p cells) (name : CellName) (named : IsName name) where
  -- what stands behind a name at some indices
  found_at : (is : List ℕ) → option_and_then (at_spot p) (option_and_then (λ at. walk p at (of_indices is)) (name_spot p name)) ≡ cell_at false 0 (spec.steps_of (name_of name) ++ map At is) (map cell_of cells)
  found_at is =
      ap (option_and_then (at_spot p))
      (ap (option_and_then (λ at. walk p at (of_indices is))) (sym (name_walk p name named)) ∙ ap (λ ks. option_and_then (λ at. walk p at ks) (walk p top (known (steps_of name)))) (sym (known_indices is))
      ∙ sym (walk_on p top (known (steps_of name)) (known (map step.Index is))) ∙ ap (walk p top) (sym (known_on (steps_of name) (map step.Index is))))
      ∙ table.table.cells_by (steps_of name ++ map step.Index is)
      ∙ cells_same false (steps_of name ++ map step.Index is) 0 cells
      ∙ ap (λ z. cell_at false 0 z (map cell_of cells)) (append_map (steps_of name) (map step.Index is) ∙ (λ i. sym (steps_same name) i ++ indices_in is i))

  less_rows : (count s size : ℕ) → 0 < size → count * (s * size) < 4294967296 → count * s < 4294967296
  less_rows count s size h k =
      let m : count * s * 1 ≤ count * s * size = mul-le (count * s) 1 (count * s) size (omega arith) (omega (arith, h)) in
      let e : count * s * size ≡ count * (s * size) = mul_assoc count s size in
      plain (count * s) (count * s * size) (count * (s * size)) (subst (λ z. z ≤ count * s * size) (one_time (count * s)) m) e k
    where
      one_time : (n : ℕ) → n * 1 ≡ n
      one_time n = grind arith

      plain : (a b c : ℕ) → a ≤ b → b ≡ c → c < 4294967296 → a < 4294967296
      plain a b c h e k = omega (arith, h, e, k)

  lt_true : (a : ℕ) → a < 4294967296 → nat_lt a 4294967296 ≡ true
  lt_true a h = grind (arith, nat_tests, h)

  some_size : (s : ℕ) → 0 < s → nat_eq s 0 ≡ false
  some_size s h = grind (arith, nat_tests, h)

  one_time : (n : ℕ) → n ≡ n * 1
  one_time n = grind arith

  times_less : (count s size : ℕ) → count * (s * size) < 4294967296 → count * s * size < 4294967296
  times_less count s size h = subst (λ z. z < 4294967296) (sym (mul_assoc count s size)) h

  step_is : (s : ℕ) (qs : List Part) (v : Option Number) (f l z w : Spot) (count size : ℕ) (fs ls : List (Option NameStep)) → 0 < s → 0 < size → count * (s * size) < 4294967296
      → option_and_then (λ to. walk p to fs) (leads p f (step.Index 0)) ≡ Some z → option_and_then (λ to. walk p to ls) (leads p l (step.Index (s - 1))) ≡ Some w
      → ((g k : Spot) → walk p g fs ≡ Some z → walk p k ls ≡ Some w → array_from p qs g k (count * s) ≡ between (count * s * size) (at_spot p z) (at_spot p w))
      → array_from p (Element s v ∷ qs) f l count ≡ between (count * (s * size)) (at_spot p z) (at_spot p w)
  step_is s qs v f l z w count size fs ls pos some bound a b rec =
      ap (λ t. if t then option_and_then (λ g. if nat_eq s 0 then None else option_and_then (λ k. array_from p qs g k (count * s)) (leads p l (step.Index (s - 1)))) (leads p f (step.Index 0)) else None)
      (lt_true (count * s) (less_rows count s size some bound))
      ∙ by (leads p f (step.Index 0)) (leads p l (step.Index (s - 1))) a b
      ∙ ap (λ n. between n (at_spot p z) (at_spot p w)) (mul_assoc count s size)
    where
      by : (o u : Option Spot) → option_and_then (λ to. walk p to fs) o ≡ Some z → option_and_then (λ to. walk p to ls) u ≡ Some w
          → option_and_then (λ g. if nat_eq s 0 then None else option_and_then (λ k. array_from p qs g k (count * s)) u) o ≡ between (count * s * size) (at_spot p z) (at_spot p w)
      by None u c d = absurd cc
      by (Some g) None c d = absurd cc
      by (Some g) (Some k) c d = ap (λ t. if t then None else array_from p qs g k (count * s)) (some_size s pos) ∙ rec g k c d

  array_is : {qs : List Part} {ps : List Step} {ss : List ℕ} → AreIndices qs ps ss → (f l z w : Spot) (count : ℕ) → walk p f (of_indices (firsts ss)) ≡ Some z → walk p l (of_indices (lasts ss)) ≡ Some w
      → count * size_of ss < 4294967296 → array_from p qs f l count ≡ between (count * size_of ss) (at_spot p z) (at_spot p w)
  array_is done f l z w count a b h = λ i. between (one_time count i) (at_spot p (some_same f z a i)) (at_spot p (some_same l w b i))
  array_is (unknown {qs = qs} {ps = ps} {ss = ss} s pos r) f l z w count a b h =
      step_is s qs None f l z w count (size_of ss) (of_indices (firsts ss)) (of_indices (lasts ss)) pos (some_cells r) h a b
      (λ g k c d. array_is r g k z w (count * s) c d (times_less count s (size_of ss) h))
  array_is (static {qs = qs} {ps = ps} {ss = ss} s i v below sm r) f l z w count a b h =
      step_is s qs (Some v) f l z w count (size_of ss) (of_indices (firsts ss)) (of_indices (lasts ss)) (omega (arith, below)) (some_cells r) h a b
      (λ g k c d. array_is r g k z w (count * s) c d (times_less count s (size_of ss) h))

  abbrev pair : ℕ → ℕ → Option (ℕ × ℕ)
  pair a b = Some (a, b)

  between_is : (first last n : ℕ) → last + 1 ≡ first + n → 0 < n → between n (Some first) (Some last) ≡ pair first n
  between_is first last n e pos = by (nat_lt last first) (nat_eq (last - first + 1) n) (grind (arith, nat_tests, e, pos)) (counts first last n e pos)
    where
      counts : (first last n : ℕ) → last + 1 ≡ first + n → 0 < n → nat_eq (last - first + 1) n ≡ true
      counts first last n e pos = let d : last - first + 1 ≡ n = omega (arith, e, pos) in same_test (last - first + 1) n d

      by : (a b : Bool) → a ≡ false → b ≡ true → (if a then None else if b then pair first n else None) ≡ pair first n
      by false true h k = refl
      by true b h k = absurd cc
      by false false h k = absurd cc

  module _ {qs : List Part} {ps : List Step} {ss : List ℕ} (r : AreIndices qs ps ss) (first : ℕ) (stands : StandsInRows (map cell_of cells) (spec.steps_of (name_of name)) ss first)
      (bound : first + size_of ss ≤ 4294967295) where
    plus_none : (n : ℕ) → n + 0 ≡ n
    plus_none n = omega arith

    begins : cell_at false 0 (spec.steps_of (name_of name) ++ map At (firsts ss)) (map cell_of cells) ≡ Some first
    begins = stands_at (map cell_of cells) (firsts ss) ss (spec.steps_of (name_of name)) first stands (all_some r).0 ∙ ap (λ z. Some (first + z)) (first_place r) ∙ ap Some (plus_none first)

    ends : cell_at false 0 (spec.steps_of (name_of name) ++ map At (lasts ss)) (map cell_of cells) ≡ Some (first + place_of (lasts ss) ss)
    ends = stands_at (map cell_of cells) (lasts ss) ss (spec.steps_of (name_of name)) first stands (all_some r).1

    small_enough : (n f : ℕ) → f + n ≤ 4294967295 → 1 * n < 4294967296
    small_enough n f h = let e : 1 * n ≡ n = grind arith in omega (arith, e, h)

    once : (n : ℕ) → 1 * n ≡ n
    once n = grind arith

    last_on : (f z n : ℕ) → z + 1 ≡ n → f + z + 1 ≡ f + n
    last_on f z n e = omega (arith, e)

    corners : (at z w : Spot) → walk p at (of_indices (firsts ss)) ≡ Some z → walk p at (of_indices (lasts ss)) ≡ Some w → at_spot p z ≡ Some first → at_spot p w ≡ Some (first + place_of (lasts ss) ss)
        → array_from p qs at at 1 ≡ pair first (size_of ss)
    corners at z w a b c d =
        array_is r at at z w 1 a b (small_enough (size_of ss) first bound)
        ∙ (λ i. between (once (size_of ss) i) (c i) (d i))
        ∙ between_is first (first + place_of (lasts ss) ss) (size_of ss) (last_on first (place_of (lasts ss) ss) (size_of ss) (last_place r)) (some_cells r)

    pub array_found : (b : Bor Places) → b.now ≡ p → array_in (Some b) qs name ≡ pair first (size_of ss)
    array_found b same =
        ap (λ (t : Places). option_and_then (λ at. array_from t qs at at 1) (name_spot t name)) same
        ∙ by (name_spot p name) (found_at (firsts ss) ∙ begins) (found_at (lasts ss) ∙ ends)
      where
        at_both : (at : Spot) (o u : Option Spot) → walk p at (of_indices (firsts ss)) ≡ o → walk p at (of_indices (lasts ss)) ≡ u → option_and_then (at_spot p) o ≡ Some first
            → option_and_then (at_spot p) u ≡ Some (first + place_of (lasts ss) ss) → array_from p qs at at 1 ≡ pair first (size_of ss)
        at_both at None u a b c d = absurd cc
        at_both at (Some z) None a b c d = absurd cc
        at_both at (Some z) (Some w) a b c d = corners at z w a b c d

        by : (o : Option Spot) → option_and_then (at_spot p) (option_and_then (λ at. walk p at (of_indices (firsts ss))) o) ≡ Some first
            → option_and_then (at_spot p) (option_and_then (λ at. walk p at (of_indices (lasts ss))) o) ≡ Some (first + place_of (lasts ss) ss)
            → option_and_then (λ at. array_from p qs at at 1) o ≡ pair first (size_of ss)
        by None c d = absurd cc
        by (Some at) c d = at_both at (walk p at (of_indices (firsts ss))) (walk p at (of_indices (lasts ss))) refl refl c d
