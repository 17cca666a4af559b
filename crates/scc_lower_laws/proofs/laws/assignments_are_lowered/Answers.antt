use Rattle.scc_lower_laws.proofs.Spread.{assigns-found, assigns-nowhere}
use Rattle.scc_lower_laws.proofs.laws.assignments_are_lowered.Goals as goal

pub returns : goal.returns
returns c = record {
  elements = λ s width n m l k e f d o first ds vs number found indices value put. assigns-found s width n m l k e f d o first ds vs number found indices value put;
  no_cells = λ s width m l k e none. assigns-nowhere s width m l k e none;
}
