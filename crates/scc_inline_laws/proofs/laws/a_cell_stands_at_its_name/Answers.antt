use Rattle.scc_inline_process_laws.proofs.Named.{named-same}
use Rattle.scc_inline_laws.proofs.laws.a_cell_stands_at_its_name.Goals as goal

pub returns : goal.returns
returns c home cs vs i s pointer l = named-same home cs vs i s pointer l
