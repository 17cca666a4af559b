use Rattle.std.proofs.Common.{◌≡◌, map, drop, None}
use Rattle.scc_elab_inits.specs.Makes.{args_in}
use Rattle.scc_elab_groups.specs.Groups.{last_args}
use Rattle.scc_elab_groups.proofs.makes.last_args.Given as goal

abbrev pub invariant-loop-tail : goal.invariant-loop-tail
invariant-loop-tail l = last_args (map (λ t. t.now) (drop l.tail-index l.tails)) (args_in l.found) ≡ last_args (map (λ t. t.now) l.tails) None
