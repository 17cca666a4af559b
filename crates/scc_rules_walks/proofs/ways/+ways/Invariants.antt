use Rattle.scc_rules_walks.specs.Ways.{AreWithin, within}
use Rattle.scc_rules_walks.proofs.Steps.{From}
use Rattle.scc_rules_walks.proofs.ways.+ways.Given as goal

abbrev pub invariant-each-loop-s : goal.invariant-each-loop-s
invariant-each-loop-s l =
    within l.depth l.fn.here → AreWithin l.depth l.initial.walk.outs.items
    → From l.body l.s-index l.fn.here l.way l.initial.walk.outs.items l.walk.outs.items l.initial.walk.first l.walk.first × within l.depth l.way × AreWithin l.depth l.walk.outs.items
