use Rattle.std.proofs.Common.{◌≡◌, map, drop}
use Rattle.scc_svread_check.specs.Blocks.{set_line}
use Rattle.scc_svread_check.specs.Lines.{lines}
use Rattle.scc_svread_check.proofs.block.sets.Given as goal

abbrev pub invariant-loop-s : goal.invariant-loop-s
invariant-loop-s l = lines (map (set_line l.scope) (drop l.s-index l.list)) l.n l.walk ≡ lines (map (set_line l.scope) l.list) l.n l.fn.w
