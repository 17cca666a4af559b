use Rattle.scc_memory_spec.proofs.Taken.{edge_chooses}
use Rattle.scc_memory_spec.proofs.laws.an_edge_chooses_an_element.Goals as goal

pub returns : goal.returns
returns c = edge_chooses
