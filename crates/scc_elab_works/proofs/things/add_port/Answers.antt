use Rattle.std.proofs.Common.{ap, ◌∙◌, sym, subst, length, map}
use Rattle.scc_elab_spec.specs.Design.{Port}
use Rattle.scc_elab_spec.specs.Grown.{added}
use Rattle.scc_elab_grown.specs.Grown.{Grows, grown_of}
use Rattle.scc_elab_grown.specs.Objects.{object_of}
use Rattle.scc_elab_store.specs.Locations.{part_of}
use Rattle.scc_elab_works.proofs.Params.{map_length}
use Rattle.scc_elab_works.proofs.things.add_port.Goals as goal

pub returns : goal.returns
returns c = subst (λ n. Grows c.add_at.result (grown_of c.add_at.new.g) (added (grown_of c.args.g.now) (map part_of c.args.path.now) c.args.place (Port c.args.kind c.args.output n))) (c.count-root.ensures ∙ sym (map_length object_of c.args.g.now.objects)) c.add_at.ensures
