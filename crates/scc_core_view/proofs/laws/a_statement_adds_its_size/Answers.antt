use Rattle.scc_core_view.proofs.Statements.{stmt_adds}
use Rattle.scc_core_view.proofs.laws.a_statement_adds_its_size.Goals as goal

pub returns-clause-statements : goal.returns-clause-statements
returns-clause-statements c = λ s d. (stmt_adds s).statements d

pub returns-clause-loops : goal.returns-clause-loops
returns-clause-loops c = λ s d. (stmt_adds s).loops d

pub returns-clause-waits : goal.returns-clause-waits
returns-clause-waits c = λ s d. (stmt_adds s).waits d
