use Rattle.scc_elab_grown.specs.Bounds.{bound_in, bound_to}
use Rattle.scc_elab_grown.specs.Grown.{grown_of}
use Rattle.scc_elab_grown.proofs.Fields.{bound_ok}
use Rattle.scc_elab_grown.proofs.grown.Grown.bind.Goals as goal

pub returns : goal.returns
returns c = bound_ok c.bind.result (grown_of c.args.self.now) (bound_to c.args.port c.args.bound) (bound_in c.bind.new.self.by_port.entries) c.bind.ensures
