use Rattle.scc_states_named_laws.proofs.Spans.{rows_named}
use Rattle.scc_states_named_laws.proofs.laws.cells_of_an_array_are_its_rows.Goals as goal

pub returns : goal.returns
returns c = λ cs x ps q ss first apart closed stands under. rows_named cs apart x ps ss q first closed stands under
