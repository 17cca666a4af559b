use Rattle.std.proofs.Common.{◌≡◌, take}
use Rattle.scc_inline.proofs.elements.copied.Given as goal

abbrev pub invariant-loop-index : goal.invariant-loop-index
invariant-loop-index l = l.all ≡ take l.index-index l.indices
