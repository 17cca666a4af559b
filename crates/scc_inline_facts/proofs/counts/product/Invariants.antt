use Rattle.std.proofs.Common.{◌≡◌, ◌*◌, length, drop}
use Rattle.scc_elab_spec.specs.Bodies.{elements as elements_in}
use Rattle.scc_inline_size_laws.specs.Counts.{many}
use Rattle.scc_inline_facts.proofs.counts.product.Given as goal

abbrev pub invariant-loop-size : goal.invariant-loop-size
invariant-loop-size l = many (l.count * length (elements_in (drop l.size-index l.sizes))) ≡ many (length (elements_in l.sizes))
