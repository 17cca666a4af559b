use Rattle.std.proofs.Common.{◌≤◌}
use Rattle.scc_memory.specs.declared.module.MemExpr.{size-MemExpr}
use Rattle.scc_memory.proofs.module.MemExpr.+gone.Given as goal

abbrev pub decreases-drop : goal.decreases-drop
decreases-drop l = goal.size-drop l

abbrev pub invariant-loop-literal : goal.invariant-loop-literal
invariant-loop-literal l = size-MemExpr l.self ≤ size-MemExpr l.initial.self
