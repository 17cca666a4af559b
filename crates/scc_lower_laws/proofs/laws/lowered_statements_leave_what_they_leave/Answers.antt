use Rattle.scc_lower_laws.proofs.Statements.{code-is}
use Rattle.scc_lower_laws.proofs.laws.lowered_statements_leave_what_they_leave.Goals as goal

pub returns : goal.returns
returns c = λ s width depth to out f code small h. code-is s width depth to out f code small h
