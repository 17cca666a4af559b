use Rattle.scc_pointers.proofs.Titles.{numbered}
use Rattle.scc_pointers.proofs.laws.new_numbers_count_the_cells_that_stay.Goals as goal

pub returns : goal.returns
returns c = numbered
