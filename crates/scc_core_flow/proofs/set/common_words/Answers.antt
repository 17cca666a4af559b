use Rattle.scc_core_flow.proofs.Sets.{and_bits}
use Rattle.scc_core_flow.proofs.set.common_words.Goals as goal

pub returns : goal.returns
returns c = and_bits c.args.a c.args.b
