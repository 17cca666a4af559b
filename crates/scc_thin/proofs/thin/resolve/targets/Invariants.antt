use Rattle.std.proofs.Common.{◌≡◌, take, map}
use Rattle.scc_thin.proofs.thin.resolve.targets.Given as goal

abbrev pub invariant-loop-p : goal.invariant-loop-p
invariant-loop-p l = l.list ≡ map (λ p. p.target) (take l.p-index l.puts)
