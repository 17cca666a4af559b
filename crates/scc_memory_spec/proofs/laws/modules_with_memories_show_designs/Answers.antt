use Rattle.scc_memory_spec.proofs.laws.modules_with_memories_show_designs.Goals as goal

pub returns-clause-name : goal.returns-clause-name
returns-clause-name c text own kept d top m s = s.matches.name

pub returns-clause-parts : goal.returns-clause-parts
returns-clause-parts c m n k b h e = h.parts k b e

pub returns-clause-gone : goal.returns-clause-gone
returns-clause-gone c m n a h t = h.gone a t
