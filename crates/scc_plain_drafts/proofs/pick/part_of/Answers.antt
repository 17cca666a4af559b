use Rattle.scc_plain_drafts.proofs.Picking.{taken_pushed}
use Rattle.scc_plain_drafts.proofs.pick.part_of.Goals as goal

pub returns : goal.returns
returns c = let l = c.args.left in taken_pushed l.place l.base l.parts l.pick c.args.part c.push.new.self c.in_ok-push.ensures.ok
