-- What stands at a path, and a pointer, by the table of names and as the definitions have it.
use Rattle.std.proofs.Common.{◌≡◌, refl, ◌^◌, Bool, true, false, not, ◌&&◌, List, map, Option, Some, None, option_and_then, slice_get, ap, ◌∙◌, sym}
use Rattle.scc_base.specs.declared.path.PathPart.{PathPart}
use Rattle.scc_bits_kinds.specs.declared.kind.Kind.{Kind}
use Rattle.scc_core.specs.declared.places.Places.{Places}
use Rattle.scc_core.specs.declared.program.Cell.{Cell}
use Rattle.scc_core.specs.declared.program.CellSort.{CellSort}
use Rattle.scc_core.specs.declared.program.CellSort.TheVariants as sort
use Rattle.scc_core.specs.declared.program.VectorSize2.{VectorSize2}
use Rattle.scc_core.specs.Names.{cell_at, is_pointer, of_path, step_of, walk}
use Rattle.scc_core.specs.Tables.{IsTable, cell_in, known, top, under}
use Rattle.scc_core_spec.specs.Named as named
use Rattle.scc_core_spec.specs.IsResolved.{fit_cell, name_is, root_is, sort_is}
use Rattle.scc_core_spec.specs.Program as program
use Rattle.scc_core_view.specs.Programs.{cell_of, path_of, sort_of}
use Rattle.scc_core_view.specs.Steps.{step_in}
use Rattle.scc_core_view.proofs.Tables.{cells_same}
use Rattle.scc_core_view.specs.Terms.{name_of}
use Rattle.scc_core_look.proofs.Apart.{both, known_path, path_same}

pub pointer-is : (s : CellSort) → program.is_pointer (sort_of s) ≡ is_pointer s
pointer-is sort.Input = refl
pointer-is sort.Output = refl
pointer-is sort.Signal = refl
pointer-is (sort.Variable w f) = refl
pointer-is (sort.Local n) = refl
pointer-is (sort.Pointer t) = refl
pointer-is (sort.Port r) = refl

module _ (p : Places) (cells : List Cell) (vectors : List VectorSize2) (table : IsTable p cells vectors) where
  pub at-path : (path : List PathPart) → option_and_then (cell_at p) (walk p (record { 0 = 0 }) (of_path path)) ≡ named.cell_at false 0 (named.path_steps (path_of path)) (map cell_of cells)
  at-path path =
      ap (λ ss. option_and_then (cell_at p) (walk p (record { 0 = 0 }) ss)) (sym (known_path path))
      ∙ table.cells_by (map step_of path)
      ∙ cells_same false (map step_of path) 0 cells
      ∙ ap (λ ss. named.cell_at false 0 ss (map cell_of cells)) (sym (path_same path))

  pub port-fits : (path : List PathPart) (k : Kind) (b : Bool) → b ≡ root_is k (option_and_then (λ n. slice_get (map cell_of cells) n) (option_and_then (cell_at p) (walk p (record { 0 = 0 }) (of_path path)))) → b ≡ true
      → sort_is (map cell_of cells) k (program.Port (path_of path)) ≡ true
  port-fits path k b e h = ap (λ n. root_is k (option_and_then (λ n. slice_get (map cell_of cells) n) n)) (sym (at-path path)) ∙ (sym e ∙ h)

pub cell-fits : (ps : List program.Process) (cs : List program.Cell) (c : Cell) → is_pointer c.sort ≡ false → name_is ps (sort_of c.sort) (name_of c.name) ≡ true → sort_is cs c.kind (sort_of c.sort) ≡ true → fit_cell ps cs (cell_of c) ≡ true
cell-fits ps cs c e f g = both (not (program.is_pointer (sort_of c.sort))) (name_is ps (sort_of c.sort) (name_of c.name) && sort_is cs c.kind (sort_of c.sort)) (ap not (pointer-is c.sort ∙ e))
    (both (name_is ps (sort_of c.sort) (name_of c.name)) (sort_is cs c.kind (sort_of c.sort)) f g)
