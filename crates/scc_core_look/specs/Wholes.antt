-- What is asked of the cells of a core before laws of whole expressions speak of it. This project's own.
use Rattle.std.specs.Prelude.{◌≡◌, ℕ, List, Some, slice_get}
use Rattle.scc_core.specs.declared.program.Cell.{Cell}
use Rattle.scc_core_view.specs.Whole.{HoldsFixed, IsName}

pub record IsHeld (c : Cell) : Type 0 where
  pub name : IsName c.name
  pub word : HoldsFixed c.kind c.sort

abbrev pub AreHeld : List Cell → Type 0
AreHeld cells = (n : ℕ) (c : Cell) → slice_get cells n ≡ Some c → IsHeld c
