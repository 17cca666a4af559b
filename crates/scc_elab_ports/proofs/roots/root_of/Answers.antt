use Rattle.std.proofs.Common.{◌<◌, length, arith}
use Rattle.scc_elab_spec.specs.After.{root_from}
use Rattle.scc_elab_spec.specs.Binding.{path_of}
use Rattle.scc_elab_store.specs.Locations.{part_of}
use Rattle.scc_elab_grown.specs.Bounds.{bound_to}
use Rattle.scc_elab_grown.specs.Grown.{grown_of}
use Rattle.scc_elab_ports.proofs.Rooting.{goes_at}
use Rattle.scc_elab_ports.proofs.roots.root_of.Goals as goal

pub loop-preserved : goal.loop-preserved
loop-preserved c =
    let h : c.loop.counter < length c.path_of-end.result.now = omega arith in
    goes_at part_of c.path_of-end.result.now (path_of (grown_of c.args.g.now) c.args.number) (grown_of c.args.g.now) c.loop.counter c.loop.at (bound_to c.loop.at c.in-Some.bound)
    (root_from (grown_of c.args.g.now) (length (path_of (grown_of c.args.g.now) c.args.number)) c.args.number) c.path_of-end.ensures h c.in-Some.ensures c.loop.invariant
