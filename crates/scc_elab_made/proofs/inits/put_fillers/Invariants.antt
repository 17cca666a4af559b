use Rattle.std.proofs.Common.{◌≡◌, drop, map}
use Rattle.scc_elab_spec.specs.Program.{Plain}
use Rattle.scc_elab_spec.specs.Construct.{Ran}
use Rattle.scc_elab_works.specs.Works.{at_in, outcome}
use Rattle.scc_elab_made.specs.Tails.{fillers_run}
use Rattle.scc_elab_made.proofs.inits.put_fillers.Given as goal

abbrev pub invariant-loop-tail : goal.invariant-loop-tail
invariant-loop-tail l = (p : Plain) (x : Ran) → outcome p l.works.items (fillers_run p (at_in l.at) (map (λ t. t.now) (drop l.tail-index l.tails)) x) ≡ outcome p l.initial.works.items (fillers_run p (at_in l.at) (map (λ t. t.now) l.tails) x)
