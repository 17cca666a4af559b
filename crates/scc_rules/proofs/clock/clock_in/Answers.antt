use Rattle.std.proofs.Common.{sym, ◌∙◌}
use Rattle.scc_rules_walks.specs.Cells.{has_flag}
use Rattle.scc_rules.proofs.Clocks.{clock_unsensed}
use Rattle.scc_rules.proofs.Firsts.{each_ok}
use Rattle.scc_rules.proofs.clock.clock_in.Goals as goal

pub returns-else-is_sensed-clause-found : goal.returns-else-is_sensed-clause-found
returns-else-is_sensed-clause-found c =
    each_ok _ _ c.first_read.result c.first_read.ensures.first
    (λ found h. clock_unsensed c.args.f.now c.args.p.now c.args.marks.now (has_flag c.args.clocks.now) found (sym c.is_sensed.ensures ∙ c.if-is_sensed.false) h)
