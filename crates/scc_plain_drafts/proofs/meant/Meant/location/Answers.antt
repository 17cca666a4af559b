use Rattle.scc_plain_drafts.proofs.meant.Meant.location.Goals as goal

pub returns-in-Loc : goal.returns-in-Loc
returns-in-Loc c = λ n. rw c.in-Loc.is (c.location.ensures n)
