use Rattle.scc_elab_worth.proofs.Kept.{all_fit}
use Rattle.scc_elab_worth.proofs.picks.fits.Goals as goal

pub returns-then-len-ge127 : goal.returns-then-len-ge127
returns-then-len-ge127 c = λ u. all_fit c.args.bits c.args.len c.ranges.bits.fits c.if-len-ge127.true
