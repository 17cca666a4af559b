use Rattle.std.proofs.Common.{sym, ap, subst, ◌∙◌, ◌∷◌}
use Rattle.scc_unroll_laws.specs.Counters.{counters_of}
use Rattle.scc_unroll_asked.specs.Read.{AreCounters, IsCounter}
use Rattle.scc_unroll.proofs.counted.counters_in.Goals as goal

pub returns-clause-is : goal.returns-clause-is
returns-clause-is c = ap counters_of c.in_ok-all.ensures ∙ ap (λ x. x ∷ counters_of c.args.around.now) c.in_ok-first.ensures.is

pub returns-clause-counters : goal.returns-clause-counters
returns-clause-counters c = λ a.
    subst (AreCounters c.args.at.now.known.cells.now) (sym c.in_ok-all.ensures)
    (subst (λ cs. IsCounter cs c.in_ok-first.first) c.cells.ensures.cells c.in_ok-first.ensures.counter, a)
