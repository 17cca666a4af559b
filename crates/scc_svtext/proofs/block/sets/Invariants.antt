use Rattle.std.proofs.Common.{◌≡◌, ◌++◌, flat_map, take}
use Rattle.scc_svtext.specs.ModuleText.{set_text}
use Rattle.scc_svtext.proofs.block.sets.Given as goal

abbrev pub invariant-loop-s : goal.invariant-loop-s
invariant-loop-s l = l.out ≡ l.initial.out ++ flat_map (set_text l.names l.indent) (take l.s-index l.list)
