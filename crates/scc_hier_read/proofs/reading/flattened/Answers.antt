use Rattle.scc_hier_read.proofs.reading.flattened.Goals as goal

pub returns-in-Ok : goal.returns-in-Ok
returns-in-Ok c = c.in-Ok.ensures.read.text.sound
