use Rattle.scc_plain_drafts.proofs.Joined.{pushed}
use Rattle.scc_plain_drafts.proofs.join.Joining.push.Goals as goal

pub returns : goal.returns
returns c = pushed c.push.result c.args.self.now.sum c.with_part-self.result c.args.self.now.known c.known_with-self.result c.args.self.now.parts c.push.new.self c.args.x
    c.with_part-self.ensures c.known_with-self.ensures.first c.known_with-self.ensures.more c.push.ensures.ok
