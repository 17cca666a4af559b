use Rattle.scc_lower_tree_laws.proofs.Stating.{stating-shown}
use Rattle.scc_lower.proofs.laws.lowered_statements_do_what_they_do.Goals as goal

pub returns : goal.returns
returns c = λ g ss a b code out h s width sees agrees exit small fine few. stating-shown g ss a b code out h s width sees agrees exit small fine few
