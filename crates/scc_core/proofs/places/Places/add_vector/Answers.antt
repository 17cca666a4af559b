use Rattle.std.proofs.Common.{map}
use Rattle.scc_core.specs.Names.{step_of}
use Rattle.scc_core.proofs.Trees.{adds_vector}
use Rattle.scc_core.proofs.places.Places.add_vector.Goals as goal

pub returns : goal.returns
returns c = λ t.
    let a = c.in_ok-at.ensures t in
    adds_vector c.args.self.now _ _ (map step_of c.args.path.now) _ c.args.size a.extends a.reaches c.note_size.ensures
