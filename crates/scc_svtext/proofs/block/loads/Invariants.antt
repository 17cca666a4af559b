use Rattle.std.proofs.Common.{◌≡◌, ◌++◌, flat_map, take}
use Rattle.scc_svtext.specs.ModuleText.{load_text}
use Rattle.scc_svtext.proofs.block.loads.Given as goal

abbrev pub invariant-loop-l : goal.invariant-loop-l
invariant-loop-l v = v.out ≡ v.initial.out ++ flat_map (load_text v.vars v.names) (take v.l-index v.list)
