-- The cells of objects in order, and their numbers. This project's own.
use Rattle.std.specs.Prelude.{◌≡◌, ℕ, suc, List, [], ◌∷◌, ◌++◌, map, length, Option, Some, None, if◌then◌else◌}
use Rattle.scc_core.specs.declared.program.Cell.{Cell}
use Rattle.scc_core_view.specs.Programs.{cell_of}
use Rattle.scc_elab_spec.specs.Program.{Plain}
use Rattle.scc_elab_spec.specs.Design.{Design, Object, is_module}
use Rattle.scc_elab_spec.specs.Cells.{object_cells}
use Rattle.scc_inline_cells.specs.declared.cells.ObjectCells.{ObjectCells}

abbrev pub cells_listed : Option Cell → List Cell
cells_listed None = []
cells_listed (Some c) = c ∷ []

-- the numbers of objects' cells, counted from n on; objects of classes have none
abbrev pub counted : ℕ → List Object → List (Option ℕ)
counted n [] = []
counted n (o ∷ os) = if is_module o.node then None ∷ counted n os else Some n ∷ counted (suc n) os

abbrev pub number_listed : Option Cell → ℕ → Option ℕ
number_listed None n = None
number_listed (Some c) n = Some n

pub record IsEmpty (r : ObjectCells) : Type 0 where
  pub cells : r.cells ≡ []
  pub of : r.of ≡ []

-- one more object, with its cell or without one
pub record IsAdded (old new : ObjectCells) (c : Option Cell) : Type 0 where
  pub cells : new.cells ≡ old.cells ++ cells_listed c
  pub of : new.of ≡ old.of ++ number_listed c (length old.cells) ∷ []

-- the cells of the objects, and the number of each object's cell
pub record AreCells (p : Plain) (d : Design) (r : ObjectCells) : Type 0 where
  pub cells : map cell_of r.cells ≡ object_cells p d
  pub of : r.of ≡ counted 0 d.objects
