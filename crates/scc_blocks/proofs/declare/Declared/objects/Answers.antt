use Rattle.std.proofs.Common.{subst, ◌∙◌}
use Rattle.scc_blocks.specs.Declaring.{AddsInner, wants_of}
use Rattle.scc_blocks.proofs.Declaring.{inner_then}
use Rattle.scc_blocks.proofs.declare.Declared.objects.Goals as goal

pub loop-cell-preserved : goal.loop-cell-preserved
loop-cell-preserved c = (
  c.object.ensures.own ∙ c.loop-cell.invariant.0,
  inner_then (wants_of c.args.names.now c.args.c.now.cells) c.args.self.now c.loop-cell.self c.object.new.self c.loop-cell.invariant.1
      (subst (λ cs. AddsInner (wants_of c.args.names.now cs) c.loop-cell.self c.object.new.self) c.as_slice.ensures.elements c.in_ok-object.ensures.adds),
)
