use Rattle.scc_lower_laws.proofs.Leaves.{put-whole, put-part}
use Rattle.scc_lower_laws.proofs.laws.cells_are_written.Goals as goal

pub returns : goal.returns
returns c = record {
  wholes = λ s width m bits u e t number r same. put-whole s width number m bits u e t r same;
  parts = λ s width m bits u h l k e t number r root some o top same picks. put-part s width number m bits u h l k e t r root some o top same picks;
}
