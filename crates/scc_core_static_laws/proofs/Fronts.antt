-- What is left of a name behind a front part is what is left of its steps.
use Rattle.std.proofs.Common.{◌≡◌, refl, sym, ap, subst, ◌∙◌, arith, ℕ, Bool, true, false, not, ◌&&◌, nat_eq, if◌then◌else◌, List, [], ◌∷◌, ◌++◌, map, length, take, drop, Option, Some, None, option_map, option_and_then, append_assoc}
use Rattle.std.proofs.lemmas.Grind.{common_steps}
use Rattle.std.proofs.lemmas.Bool.Decides.{nat_tests}
use Rattle.std.specs.Cmp.Lexicographic.{pointwise}
use Rattle.scc_base.specs.declared.names.Name.{Name}
use Rattle.scc_base.specs.declared.path.PathPart.{PathPart}
use Rattle.scc_base.specs.declared.path.PathPart.TheVariants as path_part
use Rattle.scc_core.specs.declared.places.NameStep.{NameStep}
use Rattle.scc_core.specs.declared.places.NameStep.TheVariants as step
use Rattle.scc_core.specs.declared.program.CellName.{CellName}
use Rattle.scc_core.specs.Names.{after, are_rest, are_steps, behind, of_path, rest_of, same_part, same_step, step_of}
use Rattle.scc_core.specs.Tables.{own_steps, same_list, steps_of}
use Rattle.scc_core_view.specs.Whole.{IsName}

abbrev when : {A : Type 0} → Option A → (A → Bool) → Bool
when None f = false
when (Some a) f = f a

same_number : (a b : ℕ) → nat_eq a b ≡ nat_eq b a
same_number a b = grind (arith, nat_tests)

and_false : (b : Bool) → (b && false) ≡ false
and_false true = refl
and_false false = refl

-- ---- fronts of lists

after_front : {A : Type 0} (eq : A → A → Bool) (x y : A) (xs ys : List A) → after eq (x ∷ xs) (y ∷ ys) ≡ (if eq x y then after eq xs ys else None)
after_front eq x y xs ys = by (eq x y)
  where
    by : (b : Bool) → (if b && pointwise eq (take (length ys) xs) ys then Some (drop (length ys) xs) else None) ≡ (if b then (if pointwise eq (take (length ys) xs) ys then Some (drop (length ys) xs) else None) else None)
    by true = refl
    by false = refl

when_if : {A : Type 0} (b : Bool) (o : Option A) (f : A → Bool) → (b && when o f) ≡ when (if b then o else None) f
when_if true o f = refl
when_if false o f = refl

parts_same : (p c : PathPart) → same_step (step_of p) (step_of c) ≡ same_part c p
parts_same (path_part.Member n) (path_part.Member m) = same_number n.0 m.0
parts_same (path_part.Member n) (path_part.Index j) = refl
parts_same (path_part.Index i) (path_part.Member m) = refl
parts_same (path_part.Index i) (path_part.Index j) = same_number i j

-- no part of a path is the first of these steps
Apart : List NameStep → Type 0
Apart s = (p : PathPart) (x : List NameStep) → same_list (step_of p ∷ x) s ≡ false

apart_end : Apart []
unfolding Apart
apart_end (path_part.Member n) x = refl
apart_end (path_part.Index i) x = refl

apart_local : (n : ℕ) (s : List NameStep) → Apart (step.Local n ∷ s)
unfolding Apart
apart_local n s (path_part.Member m) x = refl
apart_local n s (path_part.Index i) x = refl

path_on : (p c : List PathPart) (r s : List NameStep) → Apart s → same_list (map step_of p ++ r) (map step_of c ++ s) ≡ when (after same_part c p) (λ d. same_list r (map step_of d ++ s))
unfolding Apart
path_on [] c r s h = refl
path_on (x ∷ p) [] r s h = h x (map step_of p ++ r)
path_on (x ∷ p) (y ∷ c) r s h =
    ap (λ b. b && same_list (map step_of p ++ r) (map step_of c ++ s)) (parts_same x y)
    ∙ ap (λ b. same_part y x && b) (path_on p c r s h)
    ∙ when_if (same_part y x) (after same_part c p) (λ d. same_list r (map step_of d ++ s))
    ∙ ap (λ o. when o (λ d. same_list r (map step_of d ++ s))) (sym (after_front same_part y x c p))

indices_on : (i j : List ℕ) (r : List NameStep) → same_list (map step.Index i ++ r) (map step.Index j) ≡ when (after nat_eq j i) (λ d. same_list r (map step.Index d))
indices_on [] j r = refl
indices_on (x ∷ i) [] r = refl
indices_on (x ∷ i) (y ∷ j) r =
    ap (λ b. b && same_list (map step.Index i ++ r) (map step.Index j)) (same_number x y)
    ∙ ap (λ b. nat_eq y x && b) (indices_on i j r)
    ∙ when_if (nat_eq y x) (after nat_eq j i) (λ d. same_list r (map step.Index d))
    ∙ ap (λ o. when o (λ d. same_list r (map step.Index d))) (sym (after_front nat_eq y x j i))

-- ---- what is left of a name

rest_steps : (q : List PathPart) (r : List NameStep) → same_list (map step_of q) r ≡ are_steps (of_path q) r
rest_steps [] [] = refl
rest_steps [] (y ∷ r) = refl
rest_steps (path_part.Member n ∷ q) [] = refl
rest_steps (path_part.Index i ∷ q) [] = refl
rest_steps (path_part.Member n ∷ q) (y ∷ r) = ap (λ b. same_step (step.Member n) y && b) (rest_steps q r)
rest_steps (path_part.Index i ∷ q) (y ∷ r) = ap (λ b. same_step (step.Index i) y && b) (rest_steps q r)

no_local : (q : List PathPart) (c : List PathPart) (m : ℕ) (s : List NameStep) → same_list (map step_of q) (map step_of c ++ step.Local m ∷ s) ≡ false
no_local [] [] m s = refl
no_local [] (y ∷ c) m s = refl
no_local (path_part.Member n ∷ q) [] m s = refl
no_local (path_part.Index i ∷ q) [] m s = refl
no_local (x ∷ q) (y ∷ c) m s = ap (λ b. same_step (step_of x) (step_of y) && b) (no_local q c m s) ∙ and_false (same_step (step_of x) (step_of y))

local_first : (n : ℕ) (x y : List NameStep) (c : PathPart) → same_list (step.Local n ∷ x) (step_of c ∷ y) ≡ false
local_first n x y (path_part.Member m) = refl
local_first n x y (path_part.Index j) = refl

local_alone : (n : ℕ) (x : List NameStep) (c : List PathPart) → same_list (step.Local n ∷ x) (map step_of c ++ []) ≡ false
local_alone n x [] = refl
local_alone n x (y ∷ c) = local_first n x (map step_of c ++ []) y

append_nil : (xs : List NameStep) → xs ++ [] ≡ xs
append_nil [] = refl
append_nil (x ∷ xs) = ap (λ l. x ∷ l) (append_nil xs)

-- ---- names

abbrev Same : List PathPart → Option (ℕ × Name) → List ℕ → List PathPart → Option (ℕ × Name) → List ℕ → List PathPart → Type 0
Same p l i c m j q =
    same_list ((map step_of p ++ own_steps l i) ++ map step_of q) (map step_of c ++ own_steps m j)
    ≡ are_rest (of_path q) (behind (record { path = c; local = m; indices = j }) (record { path = p; local = l; indices = i }))

two_paths : (p : List PathPart) (i : List ℕ) (c : List PathPart) (j : List ℕ) (q : List PathPart) → Same p None i c None j q
unfolding behind
two_paths p i c j q =
    ap (λ x. same_list x (map step_of c ++ [])) (append_assoc (map step_of p) [] (map step_of q))
    ∙ path_on p c (map step_of q) [] apart_end
    ∙ by (after same_part c p)
  where
    by : (o : Option (List PathPart)) → when o (λ d. same_list (map step_of q) (map step_of d ++ [])) ≡ are_rest (of_path q) (option_and_then (rest_of None j i) o)
    by None = refl
    by (Some d) = ap (same_list (map step_of q)) (append_nil (map step_of d)) ∙ rest_steps q (map step_of d)

path_for_local : (p : List PathPart) (i : List ℕ) (c : List PathPart) (m : ℕ × Name) (j : List ℕ) (q : List PathPart) → Same p None i c (Some m) j q
unfolding behind
path_for_local p i c m j q =
    ap (λ x. same_list x (map step_of c ++ step.Local m.0 ∷ map step.Index j)) (append_assoc (map step_of p) [] (map step_of q))
    ∙ path_on p c (map step_of q) (step.Local m.0 ∷ map step.Index j) (apart_local m.0 (map step.Index j))
    ∙ by (after same_part c p)
  where
    by : (o : Option (List PathPart)) → when o (λ d. same_list (map step_of q) (map step_of d ++ step.Local m.0 ∷ map step.Index j)) ≡ false
    by None = refl
    by (Some d) = no_local q d m.0 (map step.Index j)

local_for_path : (p : List PathPart) (l : ℕ × Name) (i : List ℕ) (c : List PathPart) (j : List ℕ) (q : List PathPart) → Same p (Some l) i c None j q
unfolding behind
local_for_path p l i c j q =
    ap (λ x. same_list x (map step_of c ++ [])) (append_assoc (map step_of p) (step.Local l.0 ∷ map step.Index i) (map step_of q))
    ∙ path_on p c (step.Local l.0 ∷ (map step.Index i ++ map step_of q)) [] apart_end
    ∙ by (after same_part c p)
  where
    by : (o : Option (List PathPart)) → when o (λ d. same_list (step.Local l.0 ∷ (map step.Index i ++ map step_of q)) (map step_of d ++ [])) ≡ false
    by None = refl
    by (Some d) = local_alone l.0 (map step.Index i ++ map step_of q) d

two_locals : (p : List PathPart) (l : ℕ × Name) (i : List ℕ) (c : List PathPart) (m : ℕ × Name) (j : List ℕ) (q : List PathPart) → Same p (Some l) i c (Some m) j q
unfolding behind
two_locals p l i c m j q =
    ap (λ x. same_list x (map step_of c ++ step.Local m.0 ∷ map step.Index j)) (append_assoc (map step_of p) (step.Local l.0 ∷ map step.Index i) (map step_of q))
    ∙ path_on p c (step.Local l.0 ∷ (map step.Index i ++ map step_of q)) (step.Local m.0 ∷ map step.Index j) (apart_local m.0 (map step.Index j))
    ∙ by (after same_part c p)
  where
    ends : (o : Option (List ℕ)) → when o (λ d. same_list (map step_of q) (map step.Index d)) ≡ are_rest (of_path q) (option_map (map step.Index) o)
    ends None = refl
    ends (Some d) = rest_steps q (map step.Index d)

    tested : (b : Bool) → (b && same_list (map step.Index i ++ map step_of q) (map step.Index j)) ≡ are_rest (of_path q) (if b then option_map (map step.Index) (after nat_eq j i) else None)
    tested true = indices_on i j (map step_of q) ∙ ends (after nat_eq j i)
    tested false = refl

    no_rest : (b : Bool) → false ≡ are_rest (of_path q) (if b then None else None)
    no_rest true = refl
    no_rest false = refl

    by : (o : Option (List PathPart)) → when o (λ d. same_list (step.Local l.0 ∷ (map step.Index i ++ map step_of q)) (map step_of d ++ step.Local m.0 ∷ map step.Index j))
        ≡ are_rest (of_path q) (if nat_eq m.0 l.0 then option_and_then (rest_of (Some m) j i) o else None)
    by None = no_rest (nat_eq m.0 l.0)
    by (Some []) = ap (λ b. b && same_list (map step.Index i ++ map step_of q) (map step.Index j)) (same_number l.0 m.0) ∙ tested (nat_eq m.0 l.0)
    by (Some (d ∷ ds)) = local_first l.0 (map step.Index i ++ map step_of q) (map step_of ds ++ step.Local m.0 ∷ map step.Index j) d ∙ no_rest (nat_eq m.0 l.0)

name_by : (p : List PathPart) (l : Option (ℕ × Name)) (i : List ℕ) (c : List PathPart) (m : Option (ℕ × Name)) (j : List ℕ) (q : List PathPart) → Same p l i c m j q
name_by p None i c None j q = two_paths p i c j q
name_by p None i c (Some m) j q = path_for_local p i c m j q
name_by p (Some l) i c None j q = local_for_path p l i c j q
name_by p (Some l) i c (Some m) j q = two_locals p l i c m j q

-- a name is a front part with these steps behind it just where its steps are those
pub name_is : (front : CellName) (q : List PathPart) (whole : CellName) → same_list (steps_of front ++ map step_of q) (steps_of whole) ≡ are_rest (of_path q) (behind whole front)
name_is front q whole = name_by front.path front.local front.indices whole.path whole.local whole.indices q
