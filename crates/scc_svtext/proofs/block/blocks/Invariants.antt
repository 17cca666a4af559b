use Rattle.std.proofs.Common.{◌≡◌, ◌++◌, flat_map, take}
use Rattle.scc_svtext.specs.ModuleText.{block_text}
use Rattle.scc_svtext.proofs.block.blocks.Given as goal

abbrev pub invariant-loop-b : goal.invariant-loop-b
invariant-loop-b l = l.out ≡ l.initial.out ++ flat_map (block_text l.vars l.names) (take l.b-index l.list)
