use Rattle.scc_plain_drafts.proofs.Picking.{taking_is}
use Rattle.scc_plain_drafts.proofs.pick.picked_at.Goals as goal

pub returns-in-Number-clause-is : goal.returns-in-Number-clause-is
returns-in-Number-clause-is c = λ n s b a. taking_is n c.args.place c.args.l c.taking.result c.args.pick c.in-Number.field-0 c.args.kind c.in-Number.is c.taking.ensures b a
