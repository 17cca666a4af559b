use Rattle.scc_core_flow.proofs.Sets.{or_bits}
use Rattle.scc_core_flow.proofs.set.both_words.Goals as goal

pub returns : goal.returns
returns c = or_bits c.args.a c.args.b
