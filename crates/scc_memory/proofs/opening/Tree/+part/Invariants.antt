use Rattle.scc_memory.proofs.opening.Tree.+part.Given as goal

abbrev pub decreases-part : goal.decreases-part
decreases-part c = c.levels
