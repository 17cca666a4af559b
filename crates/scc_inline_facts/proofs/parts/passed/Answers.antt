use Rattle.std.proofs.Common.{map}
use Rattle.scc_inline_size_laws.specs.Counts.{passed_size}
use Rattle.scc_plain_view.specs.Terms.{argument_of}
use Rattle.scc_inline_facts.proofs.Counted.{passed_goes}
use Rattle.scc_inline_facts.proofs.parts.passed.Goals as goal

pub loop-arg-preserved : goal.loop-arg-preserved
loop-arg-preserved c = passed_goes c.args.args.now c.loop-arg.arg-index c.arg-item.result c.loop-arg.count c.in_ok-count.count (passed_size (map argument_of c.args.args.now)) c.loop-arg-test.true c.arg-item.is c.loop-arg.invariant c.in_ok-count.ensures
