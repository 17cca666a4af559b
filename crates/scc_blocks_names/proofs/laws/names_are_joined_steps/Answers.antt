use Rattle.scc_blocks_names.proofs.Texts.{text_joined}
use Rattle.scc_blocks_names.proofs.laws.names_are_joined_steps.Goals as goal

pub returns : goal.returns
returns c = λ names d n h. text_joined names d n h
