-- What leaving a block does to what is still to be done. This project's own.
use Rattle.scc_elab_made.specs.declared.running.Passing.{Passing}
use Rattle.scc_elab_made.specs.declared.running.Passing.TheVariants as passing
use Rattle.scc_elab_works.specs.declared.works.Work.{Work}
use Rattle.scc_elab_works.specs.declared.works.Work.TheVariants as work

abbrev pub passing_of : Work → Passing
passing_of (work.Run r) = passing.Left
passing_of (work.Again l) = passing.Left
passing_of (work.Turn l) = passing.Left
passing_of work.Shut = passing.Shut
passing_of (work.Lead l) = passing.Stays
passing_of (work.Array a) = passing.Stays
passing_of (work.Elements e) = passing.Stays
passing_of (work.Vector v) = passing.Stays
passing_of work.Made = passing.Stays
