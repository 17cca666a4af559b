use Rattle.std.proofs.Common.{sym}
use Rattle.scc_elab_spec.specs.Types.{moved_from}
use Rattle.scc_plain_view.specs.Plains.{plain_of}
use Rattle.scc_inline_cells.proofs.Noting.{functions_go}
use Rattle.scc_inline_cells.proofs.moving.Moving.look.Goals as goal

pub loop-number-preserved : goal.loop-number-preserved
loop-number-preserved c = functions_go c.args.plain.now c.loop-number.number c.in-Some.function.now c.loop-number.self c.function.new.self c.args.self.now (moved_from (plain_of c.args.plain.now) 0 (plain_of c.args.plain.now).functions)
    (sym c.in-Some.ensures.element) c.loop-number.invariant c.in_ok-function.ensures
