use Rattle.std.proofs.Common.{◌≡◌, ◌++◌, map, take}
use Rattle.scc_base.specs.declared.path.PathPart.TheVariants.{Index}
use Rattle.scc_lower.proofs.name.parts.Given as goal

abbrev pub invariant-loop-i : goal.invariant-loop-i
invariant-loop-i l = l.parts ≡ l.initial.parts ++ map Index (take l.i-index l.fn.n.indices)
