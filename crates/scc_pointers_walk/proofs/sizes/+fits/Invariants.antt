use Rattle.std.proofs.Common.{length}
use Rattle.scc_pointers_walk.proofs.sizes.+fits.Given as goal

abbrev pub decreases-fits : goal.decreases-fits
decreases-fits l = length l.parts.now
