use Rattle.scc_tokens.proofs.Roots.{Roots}
use Rattle.scc_tokens.proofs.joining.join_roots.Given as goal

abbrev pub invariant-loop-root : goal.invariant-loop-root
invariant-loop-root g l =
    Roots l.words l.roots l.root-index l.last (g.F.Files.held l.fn.files) (g.F.Files.held l.files) (g.F.Files.misses l.fn.files) (g.F.Files.misses l.files) (g.F.Files.faults l.fn.files) (g.F.Files.faults l.files)
    l.fn.names l.names l.fn.sources l.sources l.fn.known l.known l.fn.state l.state
