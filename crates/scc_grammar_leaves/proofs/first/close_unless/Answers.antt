use Rattle.scc_grammar_leaves.proofs.first.close_unless.Goals as goal

pub returns : goal.returns
returns c = rw c.if-both.false c.close.ensures
