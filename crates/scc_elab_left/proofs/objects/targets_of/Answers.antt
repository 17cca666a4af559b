use Rattle.std.proofs.Common.{sym, map, option_map}
use Rattle.scc_elab_grown.specs.Grown.{grown_of}
use Rattle.scc_elab_grown.specs.Objects.{object_of as object_in}
use Rattle.scc_elab_left.specs.Lefts.{at_most_one}
use Rattle.scc_elab_spec.specs.Elaborated.{targets_left}
use Rattle.scc_plain_view.specs.Designs.{target_of as target_in}
use Rattle.scc_elab_left.proofs.Numbered.{target_step}
use Rattle.scc_elab_left.proofs.objects.targets_of.Goals as goal

pub loop-number-preserved : goal.loop-number-preserved
loop-number-preserved c = target_step object_in (grown_of c.args.g.now) c.args.g.now.objects c.loop-number.number c.in-Some.object.now (sym c.in-Some.ensures) (map target_in c.loop-number.list) (map target_in c.put.new.list) (at_most_one (option_map target_in c.in_ok-target_of.field-0))
    (targets_left (grown_of c.args.g.now) 0 (grown_of c.args.g.now).objects) c.in_ok-put.ensures c.in_ok-target_of.ensures c.loop-number.invariant
