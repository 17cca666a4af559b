use Rattle.scc_states.proofs.Splitting.{knows_table}
use Rattle.scc_states.proofs.thread.split.Goals as goal

pub returns-clause-whole : goal.returns-clause-whole
returns-clause-whole c = λ q is.
    c.split_known.ensures.whole q
    (knows_table c.new.result c.args.c.now.cells c.args.c.now.vectors _ c.new.ensures.cells is.cells.count c.new.ensures.places c.new.ensures.counters c.in_ok-places.ensures)
    is

pub returns-clause-exact : goal.returns-clause-exact
returns-clause-exact c = λ q is n.
    c.split_known.ensures.named q
    (knows_table c.new.result c.args.c.now.cells c.args.c.now.vectors _ c.new.ensures.cells is.cells.count c.new.ensures.places c.new.ensures.counters c.in_ok-places.ensures)
    is n
