use Rattle.scc_tokens_directives.proofs.Expanding.{expands_whole}
use Rattle.scc_tokens_directives.proofs.laws.macros_are_expanded.Goals as goal

pub returns : goal.returns
returns c = expands_whole
