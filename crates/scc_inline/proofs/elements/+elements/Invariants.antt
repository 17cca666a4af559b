use Rattle.std.proofs.Common.{length}
use Rattle.scc_inline.proofs.elements.+elements.Given as goal

abbrev pub decreases-elements : goal.decreases-elements
decreases-elements l = length l.sizes.now
