-- The variables to which cells are written.
use Rattle.std.specs.Prelude.{◌≡◌, ℕ, List, Some, slice_get}
use Rattle.scc_lower_tree_laws.specs.Assigning.{written_by}
use Rattle.scc_lower_tree_laws.specs.States.{Seen}

-- a view of the cell tells its variable
pub record IsWrittenTo (views : List Seen) (c var : ℕ) : Type 0 where
  pub view : Seen
  pub stands : slice_get views c ≡ Some view
  pub to : written_by view c ≡ Some var
