use Rattle.scc_plain_laws.proofs.Topped.{stages-answer}
use Rattle.scc_plain_laws.proofs.laws.the_stages_answer.Goals as goal

pub returns : goal.returns
returns c = stages-answer
