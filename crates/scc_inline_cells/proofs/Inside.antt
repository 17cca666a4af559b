-- Objects of classes that are added, and looked for.
use Rattle.std.proofs.Common.{◌≡◌, refl, sym, ap, subst, ◌∙◌, arith, ℕ, zero, suc, ◌+◌, ◌-◌, ◌<◌, ◌≤◌, Bool, true, false, List, [], ◌∷◌, ◌++◌, map, drop, take, length, get_or, Option, Some, None, option_map, option_and_then, slice_get, OnOk, Result, Ok, Err}
use Rattle.scc_base.specs.declared.path.PathPart.{PathPart}
use Rattle.scc_core.specs.declared.places.NameStep.{NameStep}
use Rattle.scc_core.specs.declared.places.Places.{Places}
use Rattle.scc_core.specs.declared.places.Spot.{Spot}
use Rattle.scc_core.specs.Names.{step_of, walk, of_path, cell_at}
use Rattle.scc_core.specs.Tables.{Adds, IsTree, known, under, cell_in, or_else, when, same_list, top}
use Rattle.scc_elab_design.specs.declared.Object.{Object}
use Rattle.scc_inline_cells.specs.declared.homes.Home.{Home}
use Rattle.scc_inline_cells.specs.declared.homes.Homes.{Homes}
use Rattle.scc_inline_cells.specs.Homes.{class_here, class_from, AreHomes, AddsHome, deepest, or_home}

or_none : (o : Option ℕ) → o ≡ or_else o None
or_none None = refl
or_none (Some n) = refl

or_assoc : (a b c : Option ℕ) → or_else (or_else a b) c ≡ or_else a (or_else b c)
or_assoc None b c = refl
or_assoc (Some n) b c = refl

-- the steps of a path, as the table walks along them
steps_known : (q : List PathPart) → of_path q ≡ known (map step_of q)
steps_known [] = refl
steps_known (x ∷ q) = ap (λ z. Some (step_of x) ∷ z) (steps_known q)

pub found_is : (h : Homes) (os : List Object) (q : List PathPart) (at : Option Spot) → AreHomes h os → at ≡ walk h.places top (of_path q) → option_and_then (cell_at h.places) at ≡ class_from (map step_of q) os
found_is h os q at homes e = ap (option_and_then (cell_at h.places)) (e ∙ ap (walk h.places top) (steps_known q)) ∙ homes.classes (map step_of q)

-- a loop over objects
from_at : {A : Type 0} (ys : List A) (i : ℕ) (y : A) → i < length ys → y ≡ get_or ys i y → drop i ys ≡ y ∷ drop (i + 1) ys
from_at [] i y h e = absurd (omega arith)
from_at (z ∷ ys) zero y h e = let d : y ≡ z = e in λ i. sym d i ∷ ys
from_at (z ∷ ys) (suc i) y h e =
    let a : i < length ys = omega arith in
    let d : suc i + 1 ≡ suc (i + 1) = omega arith in
    from_at ys i y a e ∙ ap (λ n. y ∷ drop n (z ∷ ys)) (sym d)

pub record Filled (h : Homes) (rest all : List Object) : Type 0 where
  pub tree : IsTree h.places
  pub classes : (ss : List NameStep) → or_else (under cell_in h.places ss) (class_from ss rest) ≡ class_from ss all

pub filled_first : (h : Homes) (all : List Object) → AreHomes h [] → Filled h all all
filled_first h all homes = record { tree = homes.tree; classes = λ ss. ap (λ z. or_else z (class_from ss all)) (homes.classes ss) }

pub filled_next : (h k : Homes) (all : List Object) (ys : List Object) (i : ℕ) (y : Object) → i < length ys → y ≡ get_or ys i y → Filled h (drop i ys) all → AddsHome h k y → Filled k (drop (i + 1) ys) all
filled_next h k all ys i y l e inv adds = record {
  tree = adds.tree;
  classes = λ ss. ap (λ z. or_else z (class_from ss (drop (i + 1) ys))) (adds.classes ss) ∙ or_assoc (under cell_in h.places ss) (class_here ss y.path y.node) (class_from ss (drop (i + 1) ys))
      ∙ ap (λ z. or_else (under cell_in h.places ss) (class_from ss z)) (sym (from_at ys i y l e)) ∙ inv.classes ss;
}

pub filled_last : (h : Homes) (rest all : List Object) → rest ≡ [] → Filled h rest all → AreHomes h all
filled_last h rest all e inv = record { tree = inv.tree; classes = λ ss. or_none (under cell_in h.places ss) ∙ ap (λ z. or_else (under cell_in h.places ss) (class_from ss z)) (sym e) ∙ inv.classes ss }

pub drop_all : {A : Type 0} (xs : List A) → drop (length xs) xs ≡ []
drop_all [] = refl
drop_all (x ∷ xs) = drop_all xs

-- one front part less
less : (j : ℕ) → suc j - 1 ≡ j
less j = omega arith

pub deepest_found : (os : List Object) (q f : List PathPart) (k : ℕ) (c : ℕ) → 0 < k → f ≡ take (k - 1) q → Some c ≡ class_from (map step_of f) os → Some (record { at = k - 1; class = c }) ≡ deepest os q k
deepest_found os q f zero c h e g = absurd (omega arith)
deepest_found os q f (suc j) c h e g = (λ i. Some (record { at = less j i; class = c })) ∙ ap (λ o. or_home j o (deepest os q j)) (g ∙ ap (λ z. class_from (map step_of z) os) (e ∙ ap (λ n. take n q) (less j)))

pub deepest_missed : (os : List Object) (q f : List PathPart) (k : ℕ) → 0 < k → f ≡ take (k - 1) q → None ≡ class_from (map step_of f) os → deepest os q k ≡ deepest os q (k - 1)
deepest_missed os q f zero h e g = absurd (omega arith)
deepest_missed os q f (suc j) h e g = ap (λ o. or_home j o (deepest os q j)) (sym (g ∙ ap (λ z. class_from (map step_of z) os) (e ∙ ap (λ n. take n q) (less j)))) ∙ ap (deepest os q) (sym (less j))
