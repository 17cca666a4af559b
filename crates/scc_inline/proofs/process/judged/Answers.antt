use Rattle.scc_plain_view.specs.Plains.{plain_of}
use Rattle.scc_inline.proofs.Judging.{judged_is}
use Rattle.scc_inline.proofs.process.judged.Goals as goal

pub returns-in-Ok-clause-judges : goal.returns-in-Ok-clause-judges
returns-in-Ok-clause-judges c = judged_is (plain_of c.args.source.plain.now) c.args.source.facts.now c.args.process.now c.in-Ok.facts.now c.fits.result c.in-Ok.ensures c.fits.ensures.judges
