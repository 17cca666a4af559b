use Rattle.std.proofs.Common.{◌≡◌, sym, ap}
use Rattle.scc_core_view.specs.Programs.{program_of}
use Rattle.scc_rules.proofs.Lives.{knows_table}
use Rattle.scc_rules.proofs.rules.check_known.Goals as goal

pub returns-clause-tells : goal.returns-clause-tells
returns-clause-tells c = λ table whole.
    let core = c.args.c.now in
    let knows = knows_table c.new-known.result core.cells core.vectors c.args.places c.new-known.ensures.cells whole.cells.count c.new-known.ensures.places c.new-known.ensures.counters table in
    c.check_facts.ensures.tells (program_of core) (sym (ap program_of c.in_ok-f.ensures.core)) (c.in_ok-f.ensures.lives knows whole)
