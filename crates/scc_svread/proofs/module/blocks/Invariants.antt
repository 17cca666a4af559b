use Rattle.std.proofs.Common.{◌≡◌, ◌++◌, map, drop}
use Rattle.scc_svread_written.specs.Resolved.{block_of, blocks_in}
use Rattle.scc_svread.proofs.module.blocks.Given as goal

abbrev pub invariant-loop-i : goal.invariant-loop-i
invariant-loop-i l = l.found ++ map (block_of l.names) (blocks_in (drop l.i-index l.items)) ≡ map (block_of l.names) (blocks_in l.items)
