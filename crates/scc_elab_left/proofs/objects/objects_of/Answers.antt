use Rattle.std.proofs.Common.{sym}
use Rattle.scc_elab_grown.specs.Grown.{grown_of}
use Rattle.scc_elab_grown.specs.Objects.{object_of as object_in}
use Rattle.scc_elab_spec.specs.Elaborated.{objects_left}
use Rattle.scc_plain_view.specs.Designs.{object_of}
use Rattle.scc_elab_left.proofs.Numbered.{object_step}
use Rattle.scc_elab_left.proofs.objects.objects_of.Goals as goal

pub loop-number-preserved : goal.loop-number-preserved
loop-number-preserved c = object_step object_in (grown_of c.args.g.now) c.args.g.now.objects c.loop-number.number c.in-Some.object.now (sym c.in-Some.ensures) object_of c.loop-number.list c.push.new.self c.in_ok-standing.field-0
    (objects_left (grown_of c.args.g.now) 0 (grown_of c.args.g.now).objects) c.in_ok-push.ensures.ok c.in_ok-standing.ensures c.loop-number.invariant
