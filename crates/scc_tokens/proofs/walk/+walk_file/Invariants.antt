use Rattle.std.proofs.Common.{◌-◌}
use Rattle.scc_tokens.proofs.Walking.{Going}
use Rattle.scc_tokens.proofs.walk.+walk_file.Given as goal

abbrev pub decreases-walk_file : goal.decreases-walk_file
decreases-walk_file g l = l.below

abbrev pub invariant-tokens : goal.invariant-tokens
invariant-tokens g l =
    Going l.words l.number l.below l.count l.i (g.F.Files.held l.fn.files) (g.F.Files.held l.files) (g.F.Files.misses l.fn.files) (g.F.Files.misses l.files) (g.F.Files.faults l.fn.files) (g.F.Files.faults l.files)
    l.fn.names l.names l.fn.sources l.sources l.fn.known l.known l.fn.state l.state l.sides

abbrev pub decreases-tokens : goal.decreases-tokens
decreases-tokens g l = l.count - l.i
