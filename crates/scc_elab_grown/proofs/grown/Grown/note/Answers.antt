use Rattle.scc_elab_store.specs.Locations.{location_of}
use Rattle.scc_elab_grown.specs.Bounds.{made_in}
use Rattle.scc_elab_grown.specs.Grown.{grown_of}
use Rattle.scc_elab_grown.proofs.Fields.{made_ok}
use Rattle.scc_elab_grown.proofs.grown.Grown.note.Goals as goal

pub returns : goal.returns
returns c = made_ok c.note.result (grown_of c.args.self.now) (location_of c.args.at).path (made_in c.note.new.self.at.entries) c.note.ensures
