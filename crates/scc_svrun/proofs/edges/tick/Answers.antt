use Rattle.std.proofs.Common.{sym, ◌∙◌}
use Rattle.scc_svtree.specs.Variables.{width_at, word_at}
use Rattle.scc_svrun.proofs.Over.{edge_loads, edge_sets, edge_plain}
use Rattle.scc_svrun.proofs.edges.tick.Goals as goal

pub returns-in-None-clause-words : goal.returns-in-None-clause-words
returns-in-None-clause-words c =
    edge_plain (width_at c.args.m.now.vars) c.args.reset.now c.args.sets.now (word_at c.args.x.now) (word_at c.args.y.now) (word_at c.set.new.y) c.in-None.is c.set.ensures.words

pub returns-then-is_active-clause-words : goal.returns-then-is_active-clause-words
returns-then-is_active-clause-words c =
    edge_loads (width_at c.args.m.now.vars) c.args.reset.now c.args.sets.now (word_at c.args.x.now) (word_at c.args.y.now) (word_at c.load.new.y)
    c.in-Some.r c.as_slice.result.now c.in-Some.is (sym c.is_active.ensures ∙ c.if-is_active.true) c.as_slice.ensures.elements c.load.ensures.words

pub returns-else-is_active-clause-words : goal.returns-else-is_active-clause-words
returns-else-is_active-clause-words c =
    edge_sets (width_at c.args.m.now.vars) c.args.reset.now c.args.sets.now (word_at c.args.x.now) (word_at c.args.y.now) (word_at c.set-else-is_active.new.y)
    c.in-Some.r c.in-Some.is (sym c.is_active.ensures ∙ c.if-is_active.false) c.set-else-is_active.ensures.words
