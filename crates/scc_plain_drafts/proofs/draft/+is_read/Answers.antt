use Rattle.scc_plain_drafts.proofs.Picking.{no_read}
use Rattle.scc_plain_drafts.proofs.draft.+is_read.Goals as goal

pub returns-in_default-2 : goal.returns-in_default-2
returns-in_default-2 t c = no_read c.args.x.now c.get.result.now c.in-Join.parts c.as_slice.result.now c.get.ensures.value c.in-Join.is c.as_slice.ensures.elements c.in_default.len_at_least
