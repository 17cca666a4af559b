use Rattle.std.proofs.Common.{◌∙◌}
use Rattle.scc_blocks.specs.Declaring.{wants_of}
use Rattle.scc_blocks.proofs.Declaring.{inner_then}
use Rattle.scc_blocks.proofs.declare.Declared.locals.Goals as goal

pub loop-at-preserved : goal.loop-at-preserved
loop-at-preserved c = (
  c.cell.ensures.own ∙ c.loop-at.invariant.0,
  inner_then (wants_of c.args.names.now c.args.cells.now) c.args.self.now c.loop-at.self c.cell.new.self c.loop-at.invariant.1 c.in_ok-cell.ensures.adds,
)
