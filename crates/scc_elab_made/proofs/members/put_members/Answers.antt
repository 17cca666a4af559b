use Rattle.scc_elab_made.proofs.members.put_members.Goals as goal

pub returns : goal.returns
returns c = λ list g. c.put_each.ensures list g c.args.works.now.items c.in_ok-put_made.ensures
