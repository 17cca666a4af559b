use Rattle.scc_plain_drafts.proofs.join.known_with.Goals as goal

pub returns-clause-more : goal.returns-clause-more
returns-clause-more c = λ j k kind is e f w g. c.above.ensures j k kind e f w g
