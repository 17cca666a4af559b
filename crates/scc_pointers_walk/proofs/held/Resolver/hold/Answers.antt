use Rattle.std.proofs.Common.{◌∙◌}
use Rattle.scc_pointers_walk.proofs.Placed.{put_last}
use Rattle.scc_pointers_walk.proofs.held.Resolver.hold.Goals as goal

pub returns-clause-held : goal.returns-clause-held
returns-clause-held c = λ h. c.in_ok-_old.ensures.entries ∙ put_last c.args.cell c.args.target c.args.self.now.held.entries h
