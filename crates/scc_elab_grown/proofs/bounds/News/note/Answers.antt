use Rattle.std.proofs.Common.{◌≡◌, sym, subst}
use Rattle.scc_elab_store.specs.Locations.{location_of}
use Rattle.scc_elab_grown.specs.Bounds.{made_in, IsMarked}
use Rattle.scc_elab_grown.proofs.Putting.{made_put}
use Rattle.scc_elab_grown.proofs.bounds.News.note.Goals as goal

pub returns : goal.returns
returns c = subst (λ z. IsMarked (made_in c.args.self.now.at.entries) (location_of c.args.at).path (made_in z)) (sym c.in_ok-insert.ensures.entries) (made_put c.args.self.now.at.entries c.args.at c.requires)
