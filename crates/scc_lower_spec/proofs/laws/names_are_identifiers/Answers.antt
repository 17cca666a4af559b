use Rattle.scc_lower_spec.proofs.Simple.{joined_simple}
use Rattle.scc_lower_spec.proofs.laws.names_are_identifiers.Goals as goal

pub returns : goal.returns
returns c = λ names name ps h. joined_simple names name ps h
