use Rattle.std.proofs.Common.{sym, ap, ◌∙◌, Some, None}
use Rattle.scc_core_spec.specs.Counted.{number_of}
use Rattle.scc_core_view.specs.Programs.{path_of}
use Rattle.scc_unroll.proofs.Forms.{held_at}
use Rattle.scc_unroll.proofs.counted.counter_number.Goals as goal

pub returns-in-Some : goal.returns-in-Some
returns-in-Some c = c.number_of.ensures ∙ sym (ap (number_of (path_of c.args.path.now)) (held_at c.args.cells.now c.args.cell (Some c.in-Some.cell.now) (sym c.in-Some.ensures.element)))

pub returns-in-None : goal.returns-in-None
returns-in-None c = sym (ap (number_of (path_of c.args.path.now)) (held_at c.args.cells.now c.args.cell None (sym c.in-None.ensures.element)))
