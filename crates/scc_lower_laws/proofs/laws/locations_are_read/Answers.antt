use Rattle.scc_lower_laws.proofs.Loads.{taken-whole, taken-range, taken-bit, nowhere, nowhere-range, nowhere-bit}
use Rattle.scc_lower_laws.proofs.laws.locations_are_read.Goals as goal

pub returns : goal.returns
returns c = record {
  wholes = λ s width n m e place f t number o k r. taken-whole s width n m e place f t number o k r;
  ranges = λ s width n m p k e h l place f t number d i r. taken-range s width n m p k e h l place f t number d i r;
  bits = λ s width n m p e i b place f t number j o k r. taken-bit s width n m p e i b place f t number j o k r;
  no_cells = λ s width n e place t h. nowhere s width n e place t h;
  no_ranges = λ s width n p k e h l place t u. nowhere-range s width n p k e h l place t u;
  no_bits = λ s width n p e i place t u. nowhere-bit s width n p e i place t u;
}
