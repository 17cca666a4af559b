use Rattle.std.proofs.Common.{◌≡◌, map, drop}
use Rattle.scc_svread_check.specs.Blocks.{load_line}
use Rattle.scc_svread_check.specs.Lines.{lines}
use Rattle.scc_svread_check.proofs.block.loads.Given as goal

abbrev pub invariant-loop-l : goal.invariant-loop-l
invariant-loop-l l = lines (map (load_line l.scope) (drop l.l-index l.list)) l.n l.walk ≡ lines (map (load_line l.scope) l.list) l.n l.fn.w
