-- Cells that stand under their own names have different ones.
use Rattle.std.proofs.Common.{◌≡◌, refl, arith, ℕ, zero, suc, ◌+◌, ◌<◌, ◌≤◌, Bool, true, false, not, ◌&&◌, nat_eq, List, [], ◌∷◌, ◌++◌, map, take, get_or, length, add-one, Option, Some, None, option_and_then, slice_get, ap, ◌∙◌, sym, subst, if◌then◌else◌}
use Rattle.std.specs.List.{list_all}
use Rattle.std.proofs.Math.Seq.{take-suc}
use Rattle.scc_base.specs.declared.names.Name.{Name}
use Rattle.scc_base.specs.declared.path.PathPart.{PathPart}
use Rattle.scc_base.specs.declared.path.PathPart.TheVariants as path_part
use Rattle.scc_core.specs.declared.places.NameStep.{NameStep}
use Rattle.scc_core.specs.declared.places.NameStep.TheVariants as step
use Rattle.scc_core.specs.declared.places.Places.{Places}
use Rattle.scc_core.specs.declared.places.Spot.{Spot}
use Rattle.scc_core.specs.declared.program.Cell.{Cell}
use Rattle.scc_core.specs.declared.program.CellName.{CellName}
use Rattle.scc_core.specs.declared.program.VectorSize2.{VectorSize2}
use Rattle.scc_core.specs.Names.{cell_at, is_pointer, leads, name_spot, of_indices, of_path, past_local, same_step, step_of, walk}
use Rattle.scc_core.specs.Tables.{IsTable, cell_in, first_cell, has_name, known, own_steps, same_list, steps_of, top, under}
use Rattle.scc_core_spec.specs.Named as named
use Rattle.scc_core_spec.specs.Named.{Step, Named, At, Ours, fits}
use Rattle.scc_core_spec.specs.IsResolved.{cells_apart}
use Rattle.scc_core_spec.specs.Program as program
use Rattle.scc_core_view.specs.Programs.{cell_of}
use Rattle.scc_core_view.specs.Steps.{step_in}
use Rattle.scc_core_view.specs.Terms.{name_of, own_of, part_of}
use Rattle.scc_core_look.specs.Own.{are_own, is_it, is_name, is_own}

pub first : (a b : Bool) → (a && b) ≡ true → a ≡ true
first true b e = refl
first false b e = absurd cc

pub second : (a b : Bool) → (a && b) ≡ true → b ≡ true
second true b e = e
second false b e = absurd cc

pub both : (a b : Bool) → a ≡ true → b ≡ true → (a && b) ≡ true
both a b e f = λ z. e z && f z

-- ---- a name leads where its steps do

pub walk_on : (p : Places) (at : Spot) (xs ys : List (Option NameStep)) → walk p at (xs ++ ys) ≡ option_and_then (λ to. walk p to ys) (walk p at xs)
walk_on p at [] ys = refl
walk_on p at (x ∷ xs) ys = by (option_and_then (leads p at) x) (λ to. walk_on p to xs ys)
  where
    by : (o : Option Spot) → ((to : Spot) → walk p to (xs ++ ys) ≡ option_and_then (λ to. walk p to ys) (walk p to xs))
        → option_and_then (λ to. walk p to (xs ++ ys)) o ≡ option_and_then (λ to. walk p to ys) (option_and_then (λ to. walk p to xs) o)
    by None h = refl
    by (Some to) h = h to

pub known_path : (path : List PathPart) → known (map step_of path) ≡ of_path path
known_path [] = refl
known_path (x ∷ path) = ap (λ l. Some (step_of x) ∷ l) (known_path path)

known_indices : (is : List ℕ) → known (map step.Index is) ≡ of_indices is
known_indices [] = refl
known_indices (i ∷ is) = ap (λ l. Some (step.Index i) ∷ l) (known_indices is)

pub known_on : (xs ys : List NameStep) → known (xs ++ ys) ≡ known xs ++ known ys
known_on [] ys = refl
known_on (x ∷ xs) ys = ap (λ l. Some x ∷ l) (known_on xs ys)

pub nil-is : (is : List ℕ) (n : CellName) → n.local ≡ None → n.indices ≡ is → is_name n ≡ true → is ≡ []
nil-is [] n e f h = refl
nil-is (i ∷ is) n e f h = absurd (let z = rw e at h in let y = rw f at z in cc)

own_spot : (p : Places) (local : Option (ℕ × Name)) (is : List ℕ) → (local ≡ None → is ≡ []) → (at : Spot)
    → walk p at (known (own_steps local is)) ≡ option_and_then (λ at. walk p at (of_indices is)) (past_local p local at)
own_spot p None is h at = ap (λ is. walk p at (of_indices is)) (sym (h refl))
own_spot p (Some l) is h at = ap (λ ss. option_and_then (λ to. walk p to ss) (leads p at (step.Local l.0))) (known_indices is)

pub name_walk : (p : Places) (name : CellName) → (name.local ≡ None → name.indices ≡ []) → walk p top (known (steps_of name)) ≡ name_spot p name
name_walk p name h =
    ap (walk p top) (known_on (map step_of name.path) (own_steps name.local name.indices))
    ∙ walk_on p top (known (map step_of name.path)) (known (own_steps name.local name.indices))
    ∙ ap (λ ss. option_and_then (λ to. walk p to (known (own_steps name.local name.indices))) (walk p top ss)) (known_path name.path)
    ∙ by (walk p top (of_path name.path))
  where
    by : (o : Option Spot) → option_and_then (λ to. walk p to (known (own_steps name.local name.indices))) o ≡ option_and_then (λ at. walk p at (of_indices name.indices)) (option_and_then (past_local p name.local) o)
    by None = refl
    by (Some at) = own_spot p name.local name.indices h at

-- ---- steps of names, as the definitions have them

pub fits_same : (xs ys : List NameStep) → fits (map step_in xs) (map step_in ys) ≡ same_list xs ys
fits_same [] [] = refl
fits_same [] (step.Member y ∷ ys) = refl
fits_same [] (step.Index y ∷ ys) = refl
fits_same [] (step.Local y ∷ ys) = refl
fits_same (step.Member x ∷ xs) [] = refl
fits_same (step.Index x ∷ xs) [] = refl
fits_same (step.Local x ∷ xs) [] = refl
fits_same (step.Member x ∷ xs) (step.Member y ∷ ys) = ap (λ b. nat_eq x.0 y.0 && b) (fits_same xs ys)
fits_same (step.Index x ∷ xs) (step.Index y ∷ ys) = ap (λ b. nat_eq x y && b) (fits_same xs ys)
fits_same (step.Local x ∷ xs) (step.Local y ∷ ys) = ap (λ b. nat_eq x y && b) (fits_same xs ys)
fits_same (step.Member x ∷ xs) (step.Index y ∷ ys) = refl
fits_same (step.Member x ∷ xs) (step.Local y ∷ ys) = refl
fits_same (step.Index x ∷ xs) (step.Member y ∷ ys) = refl
fits_same (step.Index x ∷ xs) (step.Local y ∷ ys) = refl
fits_same (step.Local x ∷ xs) (step.Member y ∷ ys) = refl
fits_same (step.Local x ∷ xs) (step.Index y ∷ ys) = refl

pub append_map : (xs ys : List NameStep) → map step_in (xs ++ ys) ≡ map step_in xs ++ map step_in ys
append_map [] ys = refl
append_map (x ∷ xs) ys = ap (λ l. step_in x ∷ l) (append_map xs ys)

pub path_same : (path : List PathPart) → map named.part_step (map part_of path) ≡ map step_in (map step_of path)
path_same [] = refl
path_same (path_part.Member n ∷ path) = ap (λ l. Named n.0 ∷ l) (path_same path)
path_same (path_part.Index i ∷ path) = ap (λ l. At i ∷ l) (path_same path)

indices_same : (is : List ℕ) → map At is ≡ map step_in (map step.Index is)
indices_same [] = refl
indices_same (i ∷ is) = ap (λ l. At i ∷ l) (indices_same is)

own_same : (local : Option (ℕ × Name)) (is : List ℕ) → named.own_steps (own_of local) is ≡ map step_in (own_steps local is)
own_same None is = refl
own_same (Some l) is = ap (λ x. Ours l.0 ∷ x) (indices_same is)

pub steps_same : (n : CellName) → named.steps_of (name_of n) ≡ map step_in (steps_of n)
steps_same n = (λ i. path_same n.path i ++ own_same n.local n.indices i) ∙ sym (append_map (map step_of n.path) (own_steps n.local n.indices))

-- ---- the first of a name

pub turned : (a b : ℕ) → nat_eq a b ≡ nat_eq b a
turned a b = by (nat_eq a b) (nat_eq b a) refl refl
  where
    by : (x y : Bool) → nat_eq a b ≡ x → nat_eq b a ≡ y → nat_eq a b ≡ nat_eq b a
    by true true e f = e ∙ sym f
    by false false e f = e ∙ sym f
    by true false e f = absurd (let z : nat_eq b a ≡ true = grind (arith, e) in let y : true ≡ false = sym z ∙ f in cc)
    by false true e f = absurd (let z : nat_eq a b ≡ true = grind (arith, f) in let y : true ≡ false = sym z ∙ e in cc)

step_turned : (x y : NameStep) → same_step x y ≡ same_step y x
step_turned (step.Member x) (step.Member y) = turned x.0 y.0
step_turned (step.Index x) (step.Index y) = turned x y
step_turned (step.Local x) (step.Local y) = turned x y
step_turned (step.Member x) (step.Index y) = refl
step_turned (step.Member x) (step.Local y) = refl
step_turned (step.Index x) (step.Member y) = refl
step_turned (step.Index x) (step.Local y) = refl
step_turned (step.Local x) (step.Member y) = refl
step_turned (step.Local x) (step.Index y) = refl

pub list_turned : (xs ys : List NameStep) → same_list xs ys ≡ same_list ys xs
list_turned [] [] = refl
list_turned [] (y ∷ ys) = refl
list_turned (x ∷ xs) [] = refl
list_turned (x ∷ xs) (y ∷ ys) = λ i. step_turned x y i && list_turned xs ys i

-- where one of a name stands, the first of it stands no later
first_no_later : (ss : List NameStep) (n : ℕ) (cells : List Cell) (k : ℕ) (c : Cell) → slice_get cells k ≡ Some c → has_name false ss c ≡ true → (m : ℕ) → first_cell false ss n cells ≡ Some m → m ≤ n + k
first_no_later ss n [] k c e h m f = absurd cc
first_no_later ss n (x ∷ xs) zero c e h m f = by (has_name false ss x) (ap (has_name false ss) (some e) ∙ h) f
  where
    some : {A : Type 0} {a b : A} → Some a ≡ Some b → a ≡ b
    some e = cc

    by : (b : Bool) → b ≡ true → (if b then Some n else first_cell false ss (n + 1) xs) ≡ Some m → m ≤ n + 0
    by true g f = let z = some f in omega (arith, z)
    by false g f = absurd cc
first_no_later ss n (x ∷ xs) (suc k) c e h m f = by (has_name false ss x) (first_no_later ss (n + 1) xs k c e h m) f
  where
    some : {A : Type 0} {a b : A} → Some a ≡ Some b → a ≡ b
    some e = cc

    by : (b : Bool) → (first_cell false ss (n + 1) xs ≡ Some m → m ≤ n + 1 + k) → (if b then Some n else first_cell false ss (n + 1) xs) ≡ Some m → m ≤ n + suc k
    by true g f = let z = some f in omega (arith, z)
    by false g f = let z = g f in omega (arith, z)

module _ (p : Places) (cells : List Cell) (vectors : List VectorSize2) (table : IsTable p cells vectors) where
  is-it : (n : ℕ) (o : Option ℕ) → is_it n o ≡ true → o ≡ Some n
  is-it n None e = absurd cc
  is-it n (Some m) e = let z : m ≡ n = grind (arith, e) in ap Some z

  -- what stands under its own name is the first of it
  own_first : (n : ℕ) (c : Cell) → is_own p n c ≡ true → first_cell false (steps_of c.name) 0 cells ≡ Some n
  own_first n c e =
      let rest = second (not (is_pointer c.sort)) (is_name c.name && is_it n (option_and_then (cell_at p) (name_spot p c.name))) e in
      let name = first (is_name c.name) (is_it n (option_and_then (cell_at p) (name_spot p c.name))) rest in
      let found = is-it n (option_and_then (cell_at p) (name_spot p c.name)) (second (is_name c.name) (is_it n (option_and_then (cell_at p) (name_spot p c.name))) rest) in
      sym (table.cells_by (steps_of c.name)) ∙ (ap (λ o. option_and_then (λ (at : Spot). option_and_then cell_in (slice_get p.named.items at.0)) o) (name_walk p c.name (λ g. nil-is c.name.indices c.name g refl name)) ∙ found)

  no-pointer : (n : ℕ) (c : Cell) → is_own p n c ≡ true → is_pointer c.sort ≡ false
  no-pointer n c e = by (is_pointer c.sort) (first (not (is_pointer c.sort)) (is_name c.name && is_it n (option_and_then (cell_at p) (name_spot p c.name))) e)
    where
      by : (b : Bool) → not b ≡ true → b ≡ false
      by true e = absurd cc
      by false e = refl

  -- a cell that stands before another has another name
  differs : (i j : ℕ) (c d : Cell) → i < j → slice_get cells i ≡ Some c → is_own p i c ≡ true → is_own p j d ≡ true → fits (named.steps_of (cell_of c).name) (named.steps_of (cell_of d).name) ≡ false
  differs i j c d h there own other = by (same_list (steps_of c.name) (steps_of d.name)) refl
    where
      there-is : fits (named.steps_of (cell_of c).name) (named.steps_of (cell_of d).name) ≡ same_list (steps_of c.name) (steps_of d.name)
      there-is = (λ z. fits (steps_same c.name z) (steps_same d.name z)) ∙ fits_same (steps_of c.name) (steps_of d.name)

      has : same_list (steps_of c.name) (steps_of d.name) ≡ true → has_name false (steps_of d.name) c ≡ true
      has e = ap (λ b. not b && same_list (steps_of d.name) (steps_of c.name)) (no-pointer i c own) ∙ (list_turned (steps_of d.name) (steps_of c.name) ∙ e)

      late : same_list (steps_of c.name) (steps_of d.name) ≡ true → ⊥
      late e = let z = first_no_later (steps_of d.name) 0 cells i c there (has e) j (own_first j d other) in omega (arith, z, h)

      by : (b : Bool) → same_list (steps_of c.name) (steps_of d.name) ≡ b → fits (named.steps_of (cell_of c).name) (named.steps_of (cell_of d).name) ≡ false
      by true e = absurd (late e)
      by false e = there-is ∙ e

  -- those behind
  all-differ : (i j : ℕ) (c : Cell) (ds : List Cell) → i < j → slice_get cells i ≡ Some c → is_own p i c ≡ true → are_own p j ds ≡ true → list_all (λ (d : program.Cell). not (fits (named.steps_of (cell_of c).name) (named.steps_of d.name))) (map cell_of ds) ≡ true
  all-differ i j c [] h there own e = refl
  all-differ i j c (d ∷ ds) h there own e =
      both (not (fits (named.steps_of (cell_of c).name) (named.steps_of (cell_of d).name))) _ (ap not (differs i j c d h there own (first (is_own p j d) (are_own p (j + 1) ds) e))) (all-differ i (j + 1) c ds (omega (arith, h)) there own (second (is_own p j d) (are_own p (j + 1) ds) e))

  get-behind : {A : Type 0} (xs : List A) (y : A) (ys : List A) → slice_get (xs ++ y ∷ ys) (length xs) ≡ Some y
  get-behind [] y ys = refl
  get-behind (x ∷ xs) y ys = get-behind xs y ys

  joined : {A : Type 0} (xs : List A) (y : A) (ys : List A) → (xs ++ y ∷ []) ++ ys ≡ xs ++ y ∷ ys
  joined [] y ys = refl
  joined (x ∷ xs) y ys = ap (λ l. x ∷ l) (joined xs y ys)

  length-more : {A : Type 0} (xs : List A) (y : A) → length (xs ++ y ∷ []) ≡ length xs + 1
  length-more [] y = omega arith
  length-more (x ∷ xs) y = let z = length-more xs y in omega (arith, z)

  apart : (before ds : List Cell) → before ++ ds ≡ cells → are_own p (length before) ds ≡ true → cells_apart (map cell_of ds) ≡ true
  apart before [] e h = refl
  apart before (d ∷ ds) e h =
      let own = first (is_own p (length before) d) (are_own p (length before + 1) ds) h in
      let rest = second (is_own p (length before) d) (are_own p (length before + 1) ds) h in
      both _ (cells_apart (map cell_of ds)) (all-differ (length before) (length before + 1) d ds (omega arith) (ap (λ cs. slice_get cs (length before)) (sym e) ∙ get-behind before d ds) own rest)
      (apart (before ++ d ∷ []) ds (joined before d ds ∙ e) (ap (λ n. are_own p n ds) (length-more before d) ∙ rest))

  pub names_apart : are_own p 0 cells ≡ true → cells_apart (map cell_of cells) ≡ true
  names_apart h = apart [] cells refl h

-- ---- a walk along cells that is one further

own-more : (p : Places) (n : ℕ) (cs : List Cell) (c : Cell) → are_own p n cs ≡ true → is_own p (n + length cs) c ≡ true → are_own p n (cs ++ c ∷ []) ≡ true
own-more p n [] c e h = both (is_own p n c) true (let z : n + 0 ≡ n = omega arith in ap (λ n. is_own p n c) (sym z) ∙ h) refl
own-more p n (x ∷ xs) c e h = both (is_own p n x) (are_own p (n + 1) (xs ++ c ∷ [])) (first (is_own p n x) (are_own p (n + 1) xs) e)
    (own-more p (n + 1) xs c (second (is_own p n x) (are_own p (n + 1) xs) e) (let z : n + 1 + length xs ≡ n + suc (length xs) = omega arith in ap (λ n. is_own p n c) z ∙ h))

length-taken : {A : Type 0} (xs : List A) (i : ℕ) → i ≤ length xs → length (take i xs) ≡ i
length-taken xs zero h = refl
length-taken [] (suc i) h = absurd (let z = h in omega (arith, z))
length-taken (x ∷ xs) (suc i) h = ap suc (length-taken xs i (omega (arith, h)))

pub own_on : (p : Places) (cs : List Cell) (i : ℕ) (c : Cell) → i < length cs → c ≡ get_or cs i c → (own one now : Bool) → (own ≡ true → are_own p 0 (take i cs) ≡ true) → one ≡ is_own p i c
    → now ≡ (own && one) → now ≡ true → are_own p 0 (take (i + 1) cs) ≡ true
own_on p cs i c h is own one now f g e t =
    let w : (own && one) ≡ true = sym e ∙ t in
    ap (λ n. are_own p 0 (take n cs)) (add-one i)
    ∙ ap (λ x. are_own p 0 x) (take-suc cs i c h)
    ∙ ap (λ x. are_own p 0 (take i cs ++ x ∷ [])) (sym is)
    ∙ own-more p 0 (take i cs) c (f (first own one w)) (ap (λ n. is_own p n c) (let z = length-taken cs i (omega (arith, h)) in let y : 0 + length (take i cs) ≡ i = omega (arith, z) in y) ∙ (sym g ∙ second own one w))
