use Rattle.std.proofs.Common.{refl, sym, subst, length, option_map, List}
use Rattle.scc_elab_ports.specs.Unbound.{Says}
use Rattle.scc_elab_spec.specs.After.{Clock}
use Rattle.scc_elab_after.specs.Processes.{clock_in}
use Rattle.scc_elab_after.specs.Clocks.{beside, Knows}
use Rattle.scc_elab_after.proofs.Finds.{many_says}
use Rattle.scc_elab_after.proofs.clocks.check_beside.Goals as goal

pub returns-then-many : goal.returns-then-many
returns-then-many c = subst (λ m. (before : List Clock) → Knows m before c.args.firsts.now → Says (beside m before (clock_in c.args.c)) c.check_known.result) (sym c.if-many.true)
    (many_says c.check_known.result c.args.firsts.now (option_map clock_in c.known_of.result) (length c.args.firsts.now) (clock_in c.args.c) c.known_of.ensures refl c.check_known.ensures)
