-- Cells by their names: what the code finds behind a front part of a name is what the definitions find.
use Rattle.std.proofs.Common.{◌≡◌, refl, sym, ap, subst, ◌∙◌, arith, ℕ, zero, suc, ◌<◌, ◌≤◌, ◌^◌, Bool, true, false, not, ◌&&◌, nat_eq, nat_lt, cond, if◌then◌else◌, List, [], ◌∷◌, ◌++◌, map, length, take, drop, slice_get, Option, Some, None, option_map, option_and_then, append_assoc}
use Rattle.std.proofs.lemmas.Grind.{common_steps}
use Rattle.std.proofs.lemmas.Bool.Decides.{nat_tests}
use Rattle.std.specs.Cmp.Lexicographic.{pointwise}
use Rattle.scc_base.specs.declared.names.Name.{Name}
use Rattle.scc_base.specs.declared.path.PathPart.{PathPart}
use Rattle.scc_base.specs.declared.path.PathPart.TheVariants as path_part
use Rattle.scc_core.specs.declared.places.NameStep.{NameStep}
use Rattle.scc_core.specs.declared.places.NameStep.TheVariants as step
use Rattle.scc_core.specs.declared.program.Cell.{Cell}
use Rattle.scc_core.specs.declared.program.CellName.{CellName}
use Rattle.scc_core.specs.declared.program.CellSort.{CellSort}
use Rattle.scc_core.specs.declared.program.CellSort.TheVariants as sort
use Rattle.scc_core.specs.Names.{after, are_rest, are_steps, behind, first_place, is_pointer, numbered, rest_of, same_part, sought, stands, step_of}
use Rattle.scc_semantics.specs.Location.{Part}
use Rattle.scc_semantics.specs.Location as location
use Rattle.scc_core_spec.specs.Program as program
use Rattle.scc_core_spec.specs.Named.{Step, At, Ours, fits, names_cell, own_steps, part_step, steps_of}
use Rattle.scc_core_spec.specs.Static.{found}
use Rattle.scc_core_view.specs.Terms.{part_of, own_of, name_of}
use Rattle.scc_core_view.specs.Programs.{cell_of, sort_of}
use Rattle.scc_core_view.specs.Whole.{AreWholeCells, IsName}

-- a member or an index as a step of the code
abbrev pub back : Part → NameStep
back (location.Member n) = step.Member (record { 0 = n })
back (location.Element i) = step.Index i

abbrev pub codes : List Part → List (Option NameStep)
codes ps = map (λ p. Some (back p)) ps

-- the steps of a path
abbrev pathed : List PathPart → List Step
pathed path = map part_step (map part_of path)

abbrev when : {A : Type 0} → Option A → (A → Bool) → Bool
when None f = false
when (Some a) f = f a

same_number : (a b : ℕ) → nat_eq a b ≡ nat_eq b a
same_number a b = grind (arith, nat_tests)

and_false : (b : Bool) → (b && false) ≡ false
and_false true = refl
and_false false = refl

and_turned : (a b : Bool) → (a && b) ≡ (b && a)
and_turned true true = refl
and_turned true false = refl
and_turned false true = refl
and_turned false false = refl

-- ---- fronts of lists

after_front : {A : Type 0} (eq : A → A → Bool) (x y : A) (xs ys : List A) → after eq (x ∷ xs) (y ∷ ys) ≡ (if eq x y then after eq xs ys else None)
after_front eq x y xs ys = by (eq x y)
  where
    by : (b : Bool) → (if b && pointwise eq (take (length ys) xs) ys then Some (drop (length ys) xs) else None) ≡ (if b then (if pointwise eq (take (length ys) xs) ys then Some (drop (length ys) xs) else None) else None)
    by true = refl
    by false = refl

when_if : {A : Type 0} (b : Bool) (o : Option A) (f : A → Bool) → (b && when o f) ≡ when (if b then o else None) f
when_if true o f = refl
when_if false o f = refl

parts_fit : (p c : PathPart) (x y : List Step) → fits (part_step (part_of p) ∷ x) (part_step (part_of c) ∷ y) ≡ (same_part c p && fits x y)
parts_fit (path_part.Member n) (path_part.Member m) x y = ap (λ b. b && fits x y) (same_number n.0 m.0)
parts_fit (path_part.Member n) (path_part.Index j) x y = refl
parts_fit (path_part.Index i) (path_part.Member m) x y = refl
parts_fit (path_part.Index i) (path_part.Index j) x y = ap (λ b. b && fits x y) (same_number i j)

-- no part fits where these steps begin
Apart : List Step → Type 0
Apart s = (p : Part) (x : List Step) → fits (part_step p ∷ x) s ≡ false

apart_end : Apart []
unfolding Apart
apart_end (location.Member n) x = refl
apart_end (location.Element i) x = refl

apart_local : (n : ℕ) (s : List Step) → Apart (Ours n ∷ s)
unfolding Apart
apart_local n s (location.Member m) x = refl
apart_local n s (location.Element i) x = refl

path_on : (p c : List PathPart) (r s : List Step) → Apart s → fits (pathed p ++ r) (pathed c ++ s) ≡ when (after same_part c p) (λ d. fits r (pathed d ++ s))
unfolding Apart
path_on [] c r s h = refl
path_on (x ∷ p) [] r s h = h (part_of x) (pathed p ++ r)
path_on (x ∷ p) (y ∷ c) r s h =
    parts_fit x y (pathed p ++ r) (pathed c ++ s)
    ∙ ap (λ b. same_part y x && b) (path_on p c r s h)
    ∙ when_if (same_part y x) (after same_part c p) (λ d. fits r (pathed d ++ s))
    ∙ ap (λ o. when o (λ d. fits r (pathed d ++ s))) (sym (after_front same_part y x c p))

indices_on : (i j : List ℕ) (r : List Step) → fits (map At i ++ r) (map At j) ≡ when (after nat_eq j i) (λ d. fits r (map At d))
indices_on [] j r = refl
indices_on (x ∷ i) [] r = refl
indices_on (x ∷ i) (y ∷ j) r =
    ap (λ b. b && fits (map At i ++ r) (map At j)) (same_number x y)
    ∙ ap (λ b. nat_eq y x && b) (indices_on i j r)
    ∙ when_if (nat_eq y x) (after nat_eq j i) (λ d. fits r (map At d))
    ∙ ap (λ o. when o (λ d. fits r (map At d))) (sym (after_front nat_eq y x j i))

-- ---- what is left of a name

rest_path : (q : List Part) (c : List PathPart) → fits (map part_step q) (pathed c ++ []) ≡ are_steps (codes q) (map step_of c)
rest_path [] [] = refl
rest_path [] (y ∷ c) = refl
rest_path (location.Member n ∷ q) [] = refl
rest_path (location.Element i ∷ q) [] = refl
rest_path (location.Member n ∷ q) (path_part.Member m ∷ c) = ap (λ b. nat_eq n m.0 && b) (rest_path q c)
rest_path (location.Member n ∷ q) (path_part.Index j ∷ c) = refl
rest_path (location.Element i ∷ q) (path_part.Member m ∷ c) = refl
rest_path (location.Element i ∷ q) (path_part.Index j ∷ c) = ap (λ b. nat_eq i j && b) (rest_path q c)

rest_indices : (q : List Part) (j : List ℕ) → fits (map part_step q) (map At j) ≡ are_steps (codes q) (map step.Index j)
rest_indices [] [] = refl
rest_indices [] (y ∷ j) = refl
rest_indices (location.Member n ∷ q) [] = refl
rest_indices (location.Element i ∷ q) [] = refl
rest_indices (location.Member n ∷ q) (y ∷ j) = refl
rest_indices (location.Element i ∷ q) (y ∷ j) = ap (λ b. nat_eq i y && b) (rest_indices q j)

no_local : (q : List Part) (c : List PathPart) (m : ℕ) (s : List Step) → fits (map part_step q) (pathed c ++ Ours m ∷ s) ≡ false
no_local [] [] m s = refl
no_local [] (y ∷ c) m s = refl
no_local (location.Member n ∷ q) [] m s = refl
no_local (location.Element i ∷ q) [] m s = refl
no_local (location.Member n ∷ q) (path_part.Member k ∷ c) m s = ap (λ b. nat_eq n k.0 && b) (no_local q c m s) ∙ and_false (nat_eq n k.0)
no_local (location.Member n ∷ q) (path_part.Index j ∷ c) m s = refl
no_local (location.Element i ∷ q) (path_part.Member k ∷ c) m s = refl
no_local (location.Element i ∷ q) (path_part.Index j ∷ c) m s = ap (λ b. nat_eq i j && b) (no_local q c m s) ∙ and_false (nat_eq i j)

local_first : (n : ℕ) (x y : List Step) (c : PathPart) → fits (Ours n ∷ x) (part_step (part_of c) ∷ y) ≡ false
local_first n x y (path_part.Member m) = refl
local_first n x y (path_part.Index j) = refl

local_alone : (n : ℕ) (x : List Step) (c : List PathPart) → fits (Ours n ∷ x) (pathed c ++ []) ≡ false
local_alone n x [] = refl
local_alone n x (y ∷ c) = local_first n x (pathed c ++ []) y

-- ---- names

abbrev Same : List PathPart → Option (ℕ × Name) → List ℕ → List PathPart → Option (ℕ × Name) → List ℕ → List Part → Type 0
Same p l i c m j q =
    fits ((pathed p ++ own_steps (own_of l) i) ++ map part_step q) (pathed c ++ own_steps (own_of m) j)
    ≡ are_rest (codes q) (behind (record { path = c; local = m; indices = j }) (record { path = p; local = l; indices = i }))

two_paths : (p c : List PathPart) (q : List Part) → Same p None [] c None [] q
unfolding behind
two_paths p c q =
    ap (λ x. fits x (pathed c ++ [])) (append_assoc (pathed p) [] (map part_step q))
    ∙ path_on p c (map part_step q) [] apart_end
    ∙ by (after same_part c p)
  where
    by : (o : Option (List PathPart)) → when o (λ d. fits (map part_step q) (pathed d ++ [])) ≡ are_rest (codes q) (option_and_then (rest_of None [] []) o)
    by None = refl
    by (Some d) = rest_path q d

path_for_local : (p : List PathPart) (c : List PathPart) (m : ℕ × Name) (j : List ℕ) (q : List Part) → Same p None [] c (Some m) j q
unfolding behind
path_for_local p c m j q =
    ap (λ x. fits x (pathed c ++ Ours m.0 ∷ map At j)) (append_assoc (pathed p) [] (map part_step q))
    ∙ path_on p c (map part_step q) (Ours m.0 ∷ map At j) (apart_local m.0 (map At j))
    ∙ by (after same_part c p)
  where
    by : (o : Option (List PathPart)) → when o (λ d. fits (map part_step q) (pathed d ++ Ours m.0 ∷ map At j)) ≡ false
    by None = refl
    by (Some d) = no_local q d m.0 (map At j)

local_for_path : (p : List PathPart) (l : ℕ × Name) (i : List ℕ) (c : List PathPart) (q : List Part) → Same p (Some l) i c None [] q
unfolding behind
local_for_path p l i c q =
    ap (λ x. fits x (pathed c ++ [])) (append_assoc (pathed p) (Ours l.0 ∷ map At i) (map part_step q))
    ∙ path_on p c (Ours l.0 ∷ (map At i ++ map part_step q)) [] apart_end
    ∙ by (after same_part c p)
  where
    by : (o : Option (List PathPart)) → when o (λ d. fits (Ours l.0 ∷ (map At i ++ map part_step q)) (pathed d ++ [])) ≡ false
    by None = refl
    by (Some d) = local_alone l.0 (map At i ++ map part_step q) d

two_locals : (p : List PathPart) (l : ℕ × Name) (i : List ℕ) (c : List PathPart) (m : ℕ × Name) (j : List ℕ) (q : List Part) → Same p (Some l) i c (Some m) j q
unfolding behind
two_locals p l i c m j q =
    ap (λ x. fits x (pathed c ++ Ours m.0 ∷ map At j)) (append_assoc (pathed p) (Ours l.0 ∷ map At i) (map part_step q))
    ∙ path_on p c (Ours l.0 ∷ (map At i ++ map part_step q)) (Ours m.0 ∷ map At j) (apart_local m.0 (map At j))
    ∙ by (after same_part c p)
  where
    ends : (o : Option (List ℕ)) → when o (λ d. fits (map part_step q) (map At d)) ≡ are_rest (codes q) (option_map (map step.Index) o)
    ends None = refl
    ends (Some d) = rest_indices q d

    tested : (b : Bool) → (b && fits (map At i ++ map part_step q) (map At j)) ≡ are_rest (codes q) (if b then option_map (map step.Index) (after nat_eq j i) else None)
    tested true = indices_on i j (map part_step q) ∙ ends (after nat_eq j i)
    tested false = refl

    no_rest : (b : Bool) → false ≡ are_rest (codes q) (if b then None else None)
    no_rest true = refl
    no_rest false = refl

    by : (o : Option (List PathPart)) → when o (λ d. fits (Ours l.0 ∷ (map At i ++ map part_step q)) (pathed d ++ Ours m.0 ∷ map At j))
        ≡ are_rest (codes q) (if nat_eq m.0 l.0 then option_and_then (rest_of (Some m) j i) o else None)
    by None = no_rest (nat_eq m.0 l.0)
    by (Some []) = ap (λ b. b && fits (map At i ++ map part_step q) (map At j)) (same_number l.0 m.0) ∙ tested (nat_eq m.0 l.0)
    by (Some (d ∷ ds)) = local_first l.0 (map At i ++ map part_step q) (pathed ds ++ Ours m.0 ∷ map At j) d ∙ no_rest (nat_eq m.0 l.0)

name_by : (p : List PathPart) (l : Option (ℕ × Name)) (i : List ℕ) (c : List PathPart) (m : Option (ℕ × Name)) (j : List ℕ) (q : List Part)
    → (l ≡ None → i ≡ []) → (m ≡ None → j ≡ []) → Same p l i c m j q
name_by p None i c None j q h g = subst (λ i. Same p None i c None j q) (sym (h refl)) (subst (λ j. Same p None [] c None j q) (sym (g refl)) (two_paths p c q))
name_by p None i c (Some m) j q h g = subst (λ i. Same p None i c (Some m) j q) (sym (h refl)) (path_for_local p c m j q)
name_by p (Some l) i c None j q h g = subst (λ j. Same p (Some l) i c None j q) (sym (g refl)) (local_for_path p l i c q)
name_by p (Some l) i c (Some m) j q h g = two_locals p l i c m j q

-- ---- cells

pointer_is : (s : CellSort) → program.is_pointer (sort_of s) ≡ is_pointer s
pointer_is sort.Input = refl
pointer_is sort.Output = refl
pointer_is sort.Signal = refl
pointer_is (sort.Variable w f) = refl
pointer_is (sort.Local n) = refl
pointer_is (sort.Pointer t) = refl
pointer_is (sort.Port r) = refl

-- the steps behind a front part of a name
abbrev pub steps_behind : CellName → List Part → List Step
steps_behind name q = steps_of (name_of name) ++ map part_step q

stands_is : (q : List Part) (name : CellName) (c : Cell) → IsName name → IsName c.name → names_cell false (steps_behind name q) (cell_of c) ≡ stands (codes q) name c
stands_is q name c h g =
    ap (λ b. b && not (program.is_pointer (sort_of c.sort))) (name_by name.path name.local name.indices c.name.path c.name.local c.name.indices q h g)
    ∙ ap (λ b. are_rest (codes q) (behind c.name name) && not b) (pointer_is c.sort)
    ∙ and_turned (are_rest (codes q) (behind c.name name)) (not (is_pointer c.sort))

found_first : (q : List Part) (name : CellName) (cells : List Cell) → IsName name → ((n : ℕ) (c : Cell) → slice_get cells n ≡ Some c → IsName c.name)
    → found (map cell_of cells) (steps_behind name q) ≡ option_map cell_of (option_and_then (slice_get cells) (first_place (stands (codes q) name) cells))
found_first q name [] h g = refl
found_first q name (c ∷ cells) h g =
    ap (λ b. cond b (Some (cell_of c)) (found (map cell_of cells) (steps_behind name q))) (stands_is q name c h (g zero c refl))
    ∙ by (stands (codes q) name c) (first_place (stands (codes q) name) cells) (found_first q name cells h (λ n d e. g (suc n) d e))
  where
    on : (o : Option ℕ) → option_and_then (slice_get cells) o ≡ option_and_then (slice_get (c ∷ cells)) (option_map suc o)
    on None = refl
    on (Some n) = refl

    by : (b : Bool) (o : Option ℕ) → found (map cell_of cells) (steps_behind name q) ≡ option_map cell_of (option_and_then (slice_get cells) o)
        → cond b (Some (cell_of c)) (found (map cell_of cells) (steps_behind name q)) ≡ option_map cell_of (option_and_then (slice_get (c ∷ cells)) (if b then Some 0 else option_map suc o))
    by true o e = refl
    by false o e = e ∙ ap (option_map cell_of) (on o)

place_less : {A : Type 0} (p : A → Bool) (xs : List A) (n : ℕ) → first_place p xs ≡ Some n → n < length xs
place_less p [] n e = cc e
place_less p (x ∷ xs) n e = by (p x) (first_place p xs) (place_less p xs) e
  where
    by : (b : Bool) (o : Option ℕ) → ((m : ℕ) → o ≡ Some m → m < length xs) → (if b then Some 0 else option_map suc o) ≡ Some n → n < suc (length xs)
    by true o h e = let p : 0 ≡ n = cc e in omega arith
    by false None h e = cc e
    by false (Some m) h e = let p : suc m ≡ n = cc e in let l : m < length xs = h m refl in omega arith

sought_first : (ss : List (Option NameStep)) (name : CellName) (cells : List Cell) → length cells ≤ 2 ^ 32 → sought ss name cells ≡ first_place (stands ss name) cells
sought_first ss name cells h = by (first_place (stands ss name) cells) (place_less (stands ss name) cells)
  where
    test : (b : Bool) (n : ℕ) → b ≡ true → (if b then Some n else None) ≡ Some n
    test true n e = refl
    test false n e = cc e

    by : (o : Option ℕ) → ((n : ℕ) → o ≡ Some n → n < length cells) → option_and_then numbered o ≡ o
    by None g = refl
    by (Some n) g = let l : n < length cells = g n refl in test (nat_lt n 4294967296) n (grind (arith, common_steps))

-- the cell that the definitions find is the one whose number the code finds
pub found_cell : (cells : List Cell) (name : CellName) (q : List Part) → AreWholeCells cells → IsName name
    → found (map cell_of cells) (steps_behind name q) ≡ option_map cell_of (option_and_then (slice_get cells) (sought (codes q) name cells))
found_cell cells name q h g =
    found_first q name cells g h.names
    ∙ ap (λ o. option_map cell_of (option_and_then (slice_get cells) o)) (sym (sought_first (codes q) name cells h.count))

-- a cell that the code finds is one of the list
pub sought_less : (ss : List (Option NameStep)) (name : CellName) (cells : List Cell) → length cells ≤ 2 ^ 32 → (n : ℕ) → sought ss name cells ≡ Some n → n < length cells
sought_less ss name cells h n e = place_less (stands ss name) cells n (sym (sought_first ss name cells h) ∙ e)
