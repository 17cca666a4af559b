use Rattle.scc_hier_spec.proofs.laws.blocks_are_at_home_in_objects.Goals as goal

pub returns-clause-design : goal.returns-clause-design
returns-clause-design c text p d q m paths homes h = h.objects

pub returns-clause-split : goal.returns-clause-split
returns-clause-split c text p d q m h s = (s.paths, s.homes, s.splits)
