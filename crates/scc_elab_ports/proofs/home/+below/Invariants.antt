use Rattle.scc_elab_ports.proofs.home.+below.Given as goal

abbrev pub decreases-below : goal.decreases-below
decreases-below c = c.n
