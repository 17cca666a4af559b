-- Names of cells by their steps, and where cells stand.
use Rattle.std.specs.Prelude.{ℕ, suc, Bool, true, false, not, ◌&&◌, nat_eq, nat_lt, if◌then◌else◌, List, [], ◌∷◌, length, map, take, drop, slice_get, Option, Some, None, option_map, option_and_then}
use Rattle.std.specs.Option.{option_eq, unwrap_or}
use Rattle.std.specs.Cmp.Lexicographic.{pointwise}
use Rattle.std.specs.Map.{lookup}
use Rattle.scc_base.specs.declared.names.Name.{Name}
use Rattle.scc_base.specs.declared.path.PathPart.{PathPart}
use Rattle.scc_base.specs.declared.path.PathPart.TheVariants as path_part
use Rattle.scc_core.specs.declared.places.NameStep.{NameStep}
use Rattle.scc_core.specs.declared.places.NameStep.TheVariants as step
use Rattle.scc_core.specs.declared.places.Places.{Places}
use Rattle.scc_core.specs.declared.places.Spot.{Spot}
use Rattle.scc_core.specs.declared.program.Cell.{Cell}
use Rattle.scc_core.specs.declared.program.CellName.{CellName}
use Rattle.scc_core.specs.declared.program.CellSort.{CellSort}
use Rattle.scc_core.specs.declared.program.CellSort.TheVariants as sort

abbrev pub step_of : PathPart → NameStep
step_of (path_part.Member n) = step.Member n
step_of (path_part.Index i) = step.Index i

abbrev pub same_step : NameStep → NameStep → Bool
same_step (step.Member a) (step.Member b) = nat_eq a.0 b.0
same_step (step.Index a) (step.Index b) = nat_eq a b
same_step (step.Local a) (step.Local b) = nat_eq a b
same_step _ _ = false

abbrev pub same_steps : Option NameStep → Option NameStep → Bool
same_steps = option_eq same_step

abbrev pub same_part : PathPart → PathPart → Bool
same_part (path_part.Member a) (path_part.Member b) = nat_eq a.0 b.0
same_part (path_part.Index a) (path_part.Index b) = nat_eq a b
same_part _ _ = false

-- whether steps are known and just those
abbrev pub are_steps : List (Option NameStep) → List NameStep → Bool
are_steps [] [] = true
are_steps (Some a ∷ ss) (b ∷ bs) = same_step a b && are_steps ss bs
are_steps _ _ = false

-- what is left of a list behind its front
abbrev pub after : {A : Type 0} → (A → A → Bool) → List A → List A → Option (List A)
after eq whole front = if pointwise eq (take (length front) whole) front then Some (drop (length front) whole) else None

abbrev pub indices_behind : List PathPart → List ℕ → List ℕ → Option (List NameStep)
indices_behind [] whole front = option_map (map step.Index) (after nat_eq whole front)
indices_behind (p ∷ ps) whole front = None

-- of an object's name its path is gone on with, of a local's its indices
abbrev pub rest_of : Option (ℕ × Name) → List ℕ → List ℕ → List PathPart → Option (List NameStep)
rest_of None whole front path = Some (map step_of path)
rest_of (Some l) whole front path = indices_behind path whole front

-- the steps of a name behind a front part of it
unfoldable pub behind : CellName → CellName → Option (List NameStep)
behind whole front =
    if option_eq nat_eq (option_map (λ l. l.0) whole.local) (option_map (λ l. l.0) front.local)
    then option_and_then (rest_of whole.local whole.indices front.indices) (after same_part whole.path front.path)
    else None

abbrev pub is_pointer : CellSort → Bool
is_pointer (sort.Pointer p) = true
is_pointer _ = false

abbrev pub are_rest : List (Option NameStep) → Option (List NameStep) → Bool
are_rest ss None = false
are_rest ss (Some rest) = are_steps ss rest

-- whether a cell that is no pointer has the name of a front part with just these steps behind it
abbrev pub stands : List (Option NameStep) → CellName → Cell → Bool
stands ss name c = not (is_pointer c.sort) && are_rest ss (behind c.name name)

-- the number of a cell, of which there are fewer than 2^32
abbrev pub numbered : ℕ → Option ℕ
numbered n = if nat_lt n 4294967296 then Some n else None

-- the first place in a list at which something holds, counted from 0
abbrev pub first_place : {A : Type 0} → (A → Bool) → List A → Option ℕ
first_place p [] = None
first_place p (x ∷ xs) = if p x then Some 0 else option_map suc (first_place p xs)

-- the first cell in order that stands there
abbrev pub sought : List (Option NameStep) → CellName → List Cell → Option ℕ
sought ss name cells = option_and_then numbered (first_place (stands ss name) cells)

-- what a step leads to in a table of names
unfoldable pub leads : Places → Spot → NameStep → Option Spot
leads p at s = option_map (λ n. record { 0 = n }) (lookup (λ b. nat_eq at.0 b.from && same_step s b.step) p.branches.entries)

-- what steps lead to
abbrev pub walk : Places → Spot → List (Option NameStep) → Option Spot
walk p at [] = Some at
walk p at (s ∷ ss) = option_and_then (λ to. walk p to ss) (option_and_then (leads p at) s)

abbrev pub past_local : Places → Option (ℕ × Name) → Spot → Option Spot
past_local p None at = Some at
past_local p (Some l) at = leads p at (step.Local l.0)

abbrev pub of_path : List PathPart → List (Option NameStep)
of_path path = map (λ q. Some (step_of q)) path

abbrev pub of_indices : List ℕ → List (Option NameStep)
of_indices is = map (λ i. Some (step.Index i)) is

-- what a cell's name, or a front part of one, leads to
abbrev pub name_spot : Places → CellName → Option Spot
name_spot p name = option_and_then (λ at. walk p at (of_indices name.indices)) (option_and_then (past_local p name.local) (walk p (record { 0 = 0 }) (of_path name.path)))

-- the cell that has a whole name
abbrev pub cell_at : Places → Spot → Option ℕ
cell_at p at = option_and_then (λ n. n.cell) (slice_get p.named.items at.0)

-- the pointer or reference that has a whole name
abbrev pub pointer_at : Places → Spot → Option ℕ
pointer_at p at = option_and_then (λ n. n.pointer) (slice_get p.named.items at.0)

-- the number of elements of the vector that has a whole name
abbrev pub size_at : Places → Spot → Option ℕ
size_at p at = option_and_then (λ n. n.vector) (slice_get p.named.items at.0)

-- the cell of the signal that a port of this path is bound to; where the table has none, the port's own
abbrev pub root_of_sort : Places → ℕ → CellSort → ℕ
root_of_sort p cell (sort.Port path) = unwrap_or (option_and_then (cell_at p) (walk p (record { 0 = 0 }) (of_path path))) cell
root_of_sort p cell _ = cell

abbrev pub root_in : Places → ℕ → Option Cell → ℕ
root_in p cell None = cell
root_in p cell (Some c) = root_of_sort p cell c.sort

-- the root of a cell by the table of names
abbrev pub root_at : Places → List Cell → ℕ → ℕ
root_at p cells cell = root_in p cell (slice_get cells cell)

-- the cell of a name with these steps behind it, by the table
unfoldable pub placed : Places → List (Option NameStep) → CellName → Option ℕ
placed p ss name = option_and_then (cell_at p) (option_and_then (λ at. walk p at ss) (name_spot p name))
