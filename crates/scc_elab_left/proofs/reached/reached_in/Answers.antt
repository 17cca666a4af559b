use Rattle.std.proofs.Common.{ap, sym, ◌∙◌, take}
use Rattle.scc_elab_grown.specs.Grown.{grown_of}
use Rattle.scc_elab_grown.specs.Objects.{object_of}
use Rattle.scc_elab_left.specs.Reached.{reached_at}
use Rattle.scc_elab_left.proofs.Numbered.{taken_next, taken_long}
use Rattle.scc_elab_left.proofs.reached.reached_in.Goals as goal

pub loop-number-preserved : goal.loop-number-preserved
loop-number-preserved c = λ path. c.in_ok-note.ensures (take c.loop-number.number (grown_of c.args.g.now).objects) (taken_long object_of (grown_of c.args.g.now) c.args.g.now.objects c.loop-number.number c.in-Some.object.now (sym c.in-Some.ensures)) c.loop-number.invariant path
    ∙ ap (λ os. reached_at os path) (taken_next object_of (grown_of c.args.g.now) c.args.g.now.objects c.loop-number.number c.in-Some.object.now (sym c.in-Some.ensures))
