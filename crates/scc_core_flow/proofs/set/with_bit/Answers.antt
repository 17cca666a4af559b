use Rattle.scc_core_flow.proofs.Sets.{with_slot}
use Rattle.scc_core_flow.proofs.set.with_bit.Goals as goal

pub returns : goal.returns
returns c = with_slot c.args.word c.args.slot
