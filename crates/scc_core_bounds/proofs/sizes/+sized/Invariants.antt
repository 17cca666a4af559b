use Rattle.std.proofs.Common.{◌≡◌, take}
use Rattle.scc_core_view.specs.Codes.{code_of}
use Rattle.scc_core_bounds.specs.Bounds.{measured}
use Rattle.scc_core_bounds.proofs.sizes.+sized.Given as goal

abbrev pub invariant-size_of-loop-s : goal.invariant-size_of-loop-s
invariant-size_of-loop-s l = l.size ≡ measured (code_of (take l.s-index l.list))
