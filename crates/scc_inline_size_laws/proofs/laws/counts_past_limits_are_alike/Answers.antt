use Rattle.scc_inline_size_laws.proofs.Counting.{comes_capped}
use Rattle.scc_inline_size_laws.proofs.laws.counts_past_limits_are_alike.Goals as goal

pub returns : goal.returns
returns c = comes_capped
