use Rattle.std.proofs.Common.{length}
use Rattle.scc_elab_spec.specs.Bodies.{elements}
use Rattle.scc_inline_facts.proofs.Counted.{product_goes}
use Rattle.scc_inline_facts.proofs.counts.product.Goals as goal

pub loop-size-preserved : goal.loop-size-preserved
loop-size-preserved c = product_goes c.args.sizes.now c.loop-size.size-index 0 c.loop-size.count c.times-count.result (length (elements c.args.sizes.now)) c.loop-size-test.true c.loop-size.invariant c.times-count.ensures
