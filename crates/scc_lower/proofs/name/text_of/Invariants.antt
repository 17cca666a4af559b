use Rattle.std.proofs.Common.{◌≡◌, ◌++◌, take}
use Rattle.scc_lower_spec.specs.Parts.{behind}
use Rattle.scc_lower.proofs.name.text_of.Given as goal

abbrev pub invariant-loop-p : goal.invariant-loop-p
invariant-loop-p l = l.text ≡ l.initial.text ++ behind l.fn.names (take l.p-index l.more)
