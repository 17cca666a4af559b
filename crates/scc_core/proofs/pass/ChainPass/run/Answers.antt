use Rattle.scc_core.specs.Passes.{at_second}
use Rattle.scc_core.proofs.pass.ChainPass.run.Goals as goal

-- A refusal of the second pass is one of a core that the first gave.
pub returns-clause-refused : goal.returns-clause-refused
returns-clause-refused g c = λ r h. at_second c.in_ok-between.between c.in_ok-between.ensures.given (c.run-2.ensures.refused r h)
