use Rattle.scc_states_named_laws.proofs.Strides.{rows_found}
use Rattle.scc_states_named_laws.proofs.laws.rows_are_found_by_indices.Goals as goal

pub returns : goal.returns
returns c = λ qs ps ss first r h. rows_found r first h
