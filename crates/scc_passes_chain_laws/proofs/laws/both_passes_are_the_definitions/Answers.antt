use Rattle.scc_passes_chain_laws.proofs.Both.{gives_so, refuses_so}
use Rattle.scc_passes_chain_laws.proofs.laws.both_passes_are_the_definitions.Goals as goal

pub returns-clause-gives : goal.returns-clause-gives
returns-clause-gives c = gives_so

pub returns-clause-refuses : goal.returns-clause-refuses
returns-clause-refuses c = refuses_so
