use Rattle.scc_lower_expressions.proofs.tree.+choices.Given as goal

abbrev pub decreases-element : goal.decreases-element
decreases-element c = c.levels

abbrev pub decreases-between : goal.decreases-between
decreases-between c = c.levels
