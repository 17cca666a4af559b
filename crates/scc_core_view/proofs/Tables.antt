-- What stands under a name in a table of names is what the definitions find by its steps.
use Rattle.std.proofs.Common.{◌≡◌, refl, sym, ap, ◌∙◌, ℕ, ◌+◌, Bool, true, false, not, ◌&&◌, nat_eq, List, [], ◌∷◌, ◌++◌, map, Option, Some, None, unwrap_or, if◌then◌else◌}
use Rattle.scc_base.specs.declared.names.Name.{Name}
use Rattle.scc_base.specs.declared.path.PathPart.{PathPart}
use Rattle.scc_base.specs.declared.path.PathPart.TheVariants as path_part
use Rattle.scc_core.specs.declared.places.NameStep.{NameStep}
use Rattle.scc_core.specs.declared.places.NameStep.TheVariants as step
use Rattle.scc_core.specs.declared.program.Cell.{Cell}
use Rattle.scc_core.specs.declared.program.CellName.{CellName}
use Rattle.scc_core.specs.declared.program.CellSort.{CellSort}
use Rattle.scc_core.specs.declared.program.CellSort.TheVariants as sort
use Rattle.scc_core.specs.declared.program.VectorSize2.{VectorSize2}
use Rattle.scc_core.specs.Names.{is_pointer, same_step, step_of}
use Rattle.scc_core.specs.Tables.{first_cell, first_size, has_name, is_same, same_list}
use Rattle.scc_core.specs.Tables as table
use Rattle.scc_core_spec.specs.Program as program
use Rattle.scc_core_spec.specs.Fold.{size_at}
use Rattle.scc_core_spec.specs.Named.{Step, Named, At, Ours, cell_at, fits, names_cell, own_steps, part_step, path_steps, steps_of}
use Rattle.scc_core_view.specs.Terms.{part_of, own_of, name_of}
use Rattle.scc_core_view.specs.Programs.{cell_of, path_of, sort_of, vector_of}
use Rattle.scc_core_view.specs.Steps.{step_in}

append_map : (xs ys : List NameStep) → map step_in (xs ++ ys) ≡ map step_in xs ++ map step_in ys
append_map [] ys = refl
append_map (x ∷ xs) ys = ap (λ l. step_in x ∷ l) (append_map xs ys)

path_same : (path : List PathPart) → map part_step (map part_of path) ≡ map step_in (map step_of path)
path_same [] = refl
path_same (path_part.Member n ∷ path) = ap (λ l. Named n.0 ∷ l) (path_same path)
path_same (path_part.Index i ∷ path) = ap (λ l. At i ∷ l) (path_same path)

indices_same : (is : List ℕ) → map At is ≡ map step_in (map step.Index is)
indices_same [] = refl
indices_same (i ∷ is) = ap (λ l. At i ∷ l) (indices_same is)

own_same : (local : Option (ℕ × Name)) (is : List ℕ) → own_steps (own_of local) is ≡ map step_in (table.own_steps local is)
own_same None is = refl
own_same (Some l) is = ap (λ x. Ours l.0 ∷ x) (indices_same is)

steps_same : (n : CellName) → steps_of (name_of n) ≡ map step_in (table.steps_of n)
steps_same n = (λ i. path_same n.path i ++ own_same n.local n.indices i) ∙ sym (append_map (map step_of n.path) (table.own_steps n.local n.indices))

fits_same : (xs ys : List NameStep) → fits (map step_in xs) (map step_in ys) ≡ same_list xs ys
fits_same [] [] = refl
fits_same [] (y ∷ ys) = none y
  where
    none : (y : NameStep) → fits [] (step_in y ∷ map step_in ys) ≡ false
    none (step.Member b) = refl
    none (step.Index b) = refl
    none (step.Local b) = refl
fits_same (step.Member a ∷ xs) [] = refl
fits_same (step.Index a ∷ xs) [] = refl
fits_same (step.Local a ∷ xs) [] = refl
fits_same (step.Member a ∷ xs) (step.Member b ∷ ys) = ap (λ z. nat_eq a.0 b.0 && z) (fits_same xs ys)
fits_same (step.Member a ∷ xs) (step.Index b ∷ ys) = refl
fits_same (step.Member a ∷ xs) (step.Local b ∷ ys) = refl
fits_same (step.Index a ∷ xs) (step.Member b ∷ ys) = refl
fits_same (step.Index a ∷ xs) (step.Index b ∷ ys) = ap (λ z. nat_eq a b && z) (fits_same xs ys)
fits_same (step.Index a ∷ xs) (step.Local b ∷ ys) = refl
fits_same (step.Local a ∷ xs) (step.Member b ∷ ys) = refl
fits_same (step.Local a ∷ xs) (step.Index b ∷ ys) = refl
fits_same (step.Local a ∷ xs) (step.Local b ∷ ys) = ap (λ z. nat_eq a b && z) (fits_same xs ys)

sort_same : (s : CellSort) → program.is_pointer (sort_of s) ≡ is_pointer s
sort_same sort.Input = refl
sort_same sort.Output = refl
sort_same sort.Signal = refl
sort_same (sort.Variable w f) = refl
sort_same (sort.Local n) = refl
sort_same (sort.Pointer t) = refl
sort_same (sort.Port p) = refl

turned_if : (pointer a b : Bool) → (a && (if pointer then b else not b)) ≡ (is_same pointer b && a)
turned_if true true true = refl
turned_if true true false = refl
turned_if true false true = refl
turned_if true false false = refl
turned_if false true true = refl
turned_if false true false = refl
turned_if false false true = refl
turned_if false false false = refl

named_same : (pointer : Bool) (ss : List NameStep) (c : Cell) → names_cell pointer (map step_in ss) (cell_of c) ≡ has_name pointer ss c
named_same pointer ss c =
    (λ i. fits (map step_in ss) (steps_same c.name i) && (if pointer then sort_same c.sort i else not (sort_same c.sort i)))
    ∙ ap (λ b. b && (if pointer then is_pointer c.sort else not (is_pointer c.sort))) (fits_same ss (table.steps_of c.name))
    ∙ turned_if pointer (same_list ss (table.steps_of c.name)) (is_pointer c.sort)

-- the first cell of a name
pub cells_same : (pointer : Bool) (ss : List NameStep) (n : ℕ) (cells : List Cell) → first_cell pointer ss n cells ≡ cell_at pointer n (map step_in ss) (map cell_of cells)
cells_same pointer ss n [] = refl
cells_same pointer ss n (c ∷ cs) = (λ i. if sym (named_same pointer ss c) i then Some n else cells_same pointer ss (n + 1) cs i)

-- the first vector at a path
pub sizes_same : (ss : List NameStep) (vs : List VectorSize2) → unwrap_or (first_size ss vs) 0 ≡ size_at (map vector_of vs) (map step_in ss)
sizes_same ss [] = refl
sizes_same ss (v ∷ vs) = by (same_list ss (map step_of v.path)) (sizes_same ss vs) ∙ ap (λ b. if b then v.size else size_at (map vector_of vs) (map step_in ss)) (sym (ap (fits (map step_in ss)) (path_same v.path) ∙ fits_same ss (map step_of v.path)))
  where
    by : (b : Bool) → unwrap_or (first_size ss vs) 0 ≡ size_at (map vector_of vs) (map step_in ss)
        → unwrap_or (if b then Some v.size else first_size ss vs) 0 ≡ (if b then v.size else size_at (map vector_of vs) (map step_in ss))
    by true r = refl
    by false r = r
