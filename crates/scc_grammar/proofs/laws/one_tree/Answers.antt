use Rattle.scc_grammar_complete.proofs.Unique.{one_tree}
use Rattle.scc_grammar.proofs.laws.one_tree.Goals as goal

pub returns : goal.returns
returns c = one_tree
