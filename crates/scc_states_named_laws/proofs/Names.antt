-- What a table of names finds by a name and members behind it.
use Rattle.std.proofs.Common.{◌≡◌, ◌≤◌, ◌<◌, ◌^◌, ◌+◌, ◌-◌, ℕ, suc, Bool, true, false, List, [], ◌∷◌, ◌++◌, length, map, Option, Some, None, refl, sym, ap, ◌∙◌, arith, if◌then◌else◌}
use Rattle.std.specs.Prelude.{not, ◌&&◌, nat_eq, nat_lt, option_map, option_and_then}
use Rattle.std.proofs.lemmas.Bool.Decides.{nat_tests}
use Rattle.std.proofs.lemmas.Grind.{common_steps}
use denote.Ref.{Bor}
use Rattle.scc_base.specs.declared.names.Name.{Name}
use Rattle.scc_base.specs.declared.path.PathPart.{PathPart}
use Rattle.scc_base.specs.declared.path.PathPart.TheVariants as path_part
use Rattle.scc_semantics.specs.Location as location
use Rattle.scc_semantics.specs.Location.{Part as Path}
use Rattle.scc_core.specs.declared.places.NameStep.{NameStep}
use Rattle.scc_core.specs.declared.places.NameStep.TheVariants as step
use Rattle.scc_core.specs.declared.places.Places.{Places}
use Rattle.scc_core.specs.declared.places.Spot.{Spot}
use Rattle.scc_core.specs.declared.program.Cell.{Cell}
use Rattle.scc_core.specs.declared.program.CellName.{CellName}
use Rattle.scc_core.specs.Elements.{Member, step_at}
use Rattle.scc_core.specs.Known.{placed_or}
use Rattle.scc_core.specs.Located.{array_in, between, of_array, single}
use Rattle.scc_core.specs.Names.{cell_at as at_spot, first_place, is_pointer, name_spot, numbered, of_path, placed, sought, stands, step_of, walk}
use Rattle.scc_core.specs.Tables.{first_cell, steps_of}
use Rattle.scc_core.specs.Tables as table
use Rattle.scc_core_spec.specs.Named.{Step, Named, At, Ours, Open, cell_at, is_open, own_steps, part_step}
use Rattle.scc_core_spec.specs.Named as spec
use Rattle.scc_core_spec.specs.Term.{CellName as FullName, Own}
use Rattle.scc_core_view.specs.Programs.{cell_of}
use Rattle.scc_core_view.specs.Steps.{step_in}
use Rattle.scc_core_view.specs.Terms.{name_of, own_of, part_of}
use Rattle.scc_core_view.proofs.Tables.{cells_same}
use Rattle.scc_core_static_laws.proofs.Fronts.{name_is}
use Rattle.scc_states_named_laws.proofs.Shapes.{steps_behind}

-- ---- steps

pub append_map : (xs ys : List NameStep) → map step_in (xs ++ ys) ≡ map step_in xs ++ map step_in ys
append_map [] ys = refl
append_map (x ∷ xs) ys = ap (λ l. step_in x ∷ l) (append_map xs ys)

path_same : (path : List PathPart) → map part_step (map part_of path) ≡ map step_in (map step_of path)
path_same [] = refl
path_same (path_part.Member n ∷ path) = ap (λ l. Named n.0 ∷ l) (path_same path)
path_same (path_part.Index i ∷ path) = ap (λ l. At i ∷ l) (path_same path)

indices_same : (is : List ℕ) → map At is ≡ map step_in (map step.Index is)
indices_same [] = refl
indices_same (i ∷ is) = ap (λ l. At i ∷ l) (indices_same is)

own_same : (local : Option (ℕ × Name)) (is : List ℕ) → own_steps (own_of local) is ≡ map step_in (table.own_steps local is)
own_same None is = refl
own_same (Some l) is = ap (λ x. Ours l.0 ∷ x) (indices_same is)

pub steps_same : (n : CellName) → spec.steps_of (name_of n) ≡ map step_in (steps_of n)
steps_same n = (λ i. path_same n.path i ++ own_same n.local n.indices i) ∙ sym (append_map (map step_of n.path) (table.own_steps n.local n.indices))

abbrev pub members_path : List Name → List PathPart
members_path q = map path_part.Member q

members_steps : (q : List Name) → map step_in (map step_of (members_path q)) ≡ steps_behind q
members_steps [] = refl
members_steps (n ∷ q) = ap (λ l. Named n.0 ∷ l) (members_steps q)

members_known : (q : List Name) → map (step_at false) (map Member q) ≡ of_path (members_path q)
members_known [] = refl
members_known (n ∷ q) = ap (λ l. Some (step.Member n) ∷ l) (members_known q)

-- ---- names and members leave no step open

pub closed_on : (a b : List Step) → is_open a ≡ false → is_open b ≡ false → is_open (a ++ b) ≡ false
closed_on [] b h k = k
closed_on (Named n ∷ a) b h k = closed_on a b h k
closed_on (At n ∷ a) b h k = closed_on a b h k
closed_on (Ours n ∷ a) b h k = closed_on a b h k
closed_on (Open n ∷ a) b h k = absurd cc

closed_path : (path : List Path) → is_open (map part_step path) ≡ false
closed_path [] = refl
closed_path (location.Member n ∷ path) = closed_path path
closed_path (location.Element i ∷ path) = closed_path path

closed_indices : (is : List ℕ) → is_open (map At is) ≡ false
closed_indices [] = refl
closed_indices (i ∷ is) = closed_indices is

closed_own : (o : Option Own) (is : List ℕ) → is_open (own_steps o is) ≡ false
closed_own None is = refl
closed_own (Some o) is = closed_indices is

pub closed_name : (n : FullName) → is_open (spec.steps_of n) ≡ false
closed_name n = closed_on (map part_step n.path) (own_steps n.own n.indices) (closed_path n.path) (closed_own n.own n.indices)

closed_members : (q : List Name) → is_open (steps_behind q) ≡ false
closed_members [] = refl
closed_members (n ∷ q) = closed_members q

pub closed_behind : (n : FullName) (q : List Name) → is_open (spec.steps_of n ++ steps_behind q) ≡ false
closed_behind n q = closed_on (spec.steps_of n) (steps_behind q) (closed_name n) (closed_members q)

-- ---- the first cell of a name

first_is : (name : CellName) (q : List PathPart) (n : ℕ) (cells : List Cell)
    → first_cell false (steps_of name ++ map step_of q) n cells ≡ option_map (λ k. k + n) (first_place (stands (of_path q) name) cells)
first_is name q n [] = refl
first_is name q n (c ∷ cs) =
    ap (λ b. if not (is_pointer c.sort) && b then Some n else first_cell false (steps_of name ++ map step_of q) (n + 1) cs) (name_is name q c.name)
    ∙ by (stands (of_path q) name c) (first_place (stands (of_path q) name) cs) (first_is name q (n + 1) cs)
  where
    next : (o : Option ℕ) → option_map (λ k. k + (n + 1)) o ≡ option_map (λ k. k + n) (option_map suc o)
    next None = refl
    next (Some k) = let p : k + (n + 1) ≡ suc k + n = omega arith in ap Some p

    by : (b : Bool) (o : Option ℕ) → first_cell false (steps_of name ++ map step_of q) (n + 1) cs ≡ option_map (λ k. k + (n + 1)) o
        → (if b then Some n else first_cell false (steps_of name ++ map step_of q) (n + 1) cs) ≡ option_map (λ k. k + n) (if b then Some 0 else option_map suc o)
    by true o e = let p : n ≡ 0 + n = omega arith in ap Some p
    by false o e = e ∙ next o

same_place : (o : Option ℕ) → option_map (λ k. k + 0) o ≡ o
same_place None = refl
same_place (Some k) = let p : k + 0 ≡ k = omega arith in ap Some p

place_less : {A : Type 0} (p : A → Bool) (xs : List A) (n : ℕ) → first_place p xs ≡ Some n → n < length xs
place_less p [] n e = cc e
place_less p (x ∷ xs) n e = by (p x) (first_place p xs) (place_less p xs) e
  where
    by : (b : Bool) (o : Option ℕ) → ((m : ℕ) → o ≡ Some m → m < length xs) → (if b then Some 0 else option_map suc o) ≡ Some n → n < suc (length xs)
    by true o h e = let p : 0 ≡ n = cc e in omega arith
    by false None h e = cc e
    by false (Some m) h e = let p : suc m ≡ n = cc e in let l : m < length xs = h m refl in omega arith

sought_first : (ss : List (Option NameStep)) (name : CellName) (cells : List Cell) → length cells ≤ 2 ^ 32 → sought ss name cells ≡ first_place (stands ss name) cells
sought_first ss name cells h = by (first_place (stands ss name) cells) (place_less (stands ss name) cells)
  where
    test : (b : Bool) (n : ℕ) → b ≡ true → (if b then Some n else None) ≡ Some n
    test true n e = refl
    test false n e = cc e

    by : (o : Option ℕ) → ((n : ℕ) → o ≡ Some n → n < length cells) → option_and_then numbered o ≡ o
    by None g = refl
    by (Some n) g = let l : n < length cells = g n refl in test (nat_lt n 4294967296) n (grind (arith, common_steps))

-- and it is one of them
pub sought_less : (ss : List (Option NameStep)) (name : CellName) (cells : List Cell) → length cells ≤ 2 ^ 32 → (n : ℕ) → sought ss name cells ≡ Some n → n < length cells
sought_less ss name cells h n e = place_less (stands ss name) cells n (sym (sought_first ss name cells h) ∙ e)

-- what is sought by a name and members is what the definitions find
pub sought_is : (cells : List Cell) (name : CellName) (q : List Name) → length cells ≤ 2 ^ 32
    → sought (map (step_at false) (map Member q)) name cells ≡ cell_at false 0 (spec.steps_of (name_of name) ++ steps_behind q) (map cell_of cells)
sought_is cells name q h =
    ap (λ ss. sought ss name cells) (members_known q)
    ∙ sought_first (of_path (members_path q)) name cells h
    ∙ sym (first_is name (members_path q) 0 cells ∙ same_place (first_place (stands (of_path (members_path q)) name) cells))
    ∙ cells_same false (steps_of name ++ map step_of (members_path q)) 0 cells
    ∙ ap (λ ss. cell_at false 0 ss (map cell_of cells)) (append_map (steps_of name) (map step_of (members_path q)) ∙ (λ i. sym (steps_same name) i ++ members_steps q i))

-- ---- members are no elements of an array

abbrev no_cells : Spot → Option (ℕ × ℕ)
no_cells at = None

abbrev one_at : ℕ → Option (ℕ × ℕ)
one_at m = Some (m, 1)

none_then : (o : Option Spot) → option_and_then no_cells o ≡ None
none_then None = refl
none_then (Some at) = refl

alone_between : (m : ℕ) → between 1 (Some m) (Some m) ≡ one_at m
alone_between m = by (nat_lt m m) (nat_eq (m - m + 1) 1) (grind (arith, nat_tests)) (grind (arith, nat_tests))
  where
    by : (a b : Bool) → a ≡ false → b ≡ true → (if a then None else if b then one_at m else None) ≡ one_at m
    by false true h k = refl
    by true b h k = absurd cc
    by false false h k = absurd cc

nil_named : (o : Option (Bor Places)) (other : Option ℕ) (name : CellName) → of_array (array_in o [] name) (placed_or o other [] name) [] ≡ single (placed_or o other [] name)
unfolding placed
nil_named None other name = refl
nil_named (Some p) other name = by (name_spot p.now name)
  where
    at : (m : Option ℕ) → of_array (between 1 m m) m [] ≡ single m
    at None = refl
    at (Some m) = ap (λ a. of_array a (Some m) []) (alone_between m)

    by : (s : Option Spot) → of_array (option_and_then (λ z. between 1 (at_spot p.now z) (at_spot p.now z)) s) (option_and_then (at_spot p.now) (option_and_then (λ z. walk p.now z []) s)) []
        ≡ single (option_and_then (at_spot p.now) (option_and_then (λ z. walk p.now z []) s))
    by None = refl
    by (Some z) = at (at_spot p.now z)

none_of_array : (o : Option (Bor Places)) (n : Name) (q : List Name) (name : CellName) → array_in o (Member n ∷ map Member q) name ≡ None
none_of_array None n q name = refl
none_of_array (Some p) n q name = none_then (name_spot p.now name)

pub members_named : (o : Option (Bor Places)) (other : Option ℕ) (name : CellName) (q : List Name)
    → of_array (array_in o (map Member q) name) (placed_or o other (map (step_at false) (map Member q)) name) (map Member q) ≡ single (placed_or o other (map (step_at false) (map Member q)) name)
members_named o other name [] = nil_named o other name
members_named o other name (n ∷ q) = ap (λ a. of_array a (placed_or o other (map (step_at false) (map Member (n ∷ q))) name) (map Member (n ∷ q))) (none_of_array o n q name)
