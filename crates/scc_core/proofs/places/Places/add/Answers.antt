use Rattle.scc_core.specs.Tables.{steps_of}
use Rattle.scc_core.proofs.Trees.{adds_cell}
use Rattle.scc_core.proofs.places.Places.add.Goals as goal

pub returns : goal.returns
returns c = λ t.
    let a = c.in_ok-at.ensures t in
    adds_cell c.args.self.now _ _ (steps_of c.args.name.now) _ c.args.number c.args.pointer a.extends a.reaches c.note.ensures
