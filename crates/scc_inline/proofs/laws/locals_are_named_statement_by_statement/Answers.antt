use Rattle.scc_inline.proofs.Declaring.{first_named}
use Rattle.scc_inline.proofs.laws.locals_are_named_statement_by_statement.Goals as goal

pub returns : goal.returns
returns c = λ call i cs roots s ss. first_named call i cs roots s ss
