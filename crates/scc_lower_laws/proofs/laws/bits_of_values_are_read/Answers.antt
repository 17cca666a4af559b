use Rattle.scc_lower_laws.proofs.Loads.{bit-past, bit-open}
use Rattle.scc_lower_laws.proofs.laws.bits_of_values_are_read.Goals as goal

pub returns : goal.returns
returns c = record {
  past = λ s width n p e i b h o. bit-past s width n p e i b h o;
  open_index = λ s width n m p e i f o v some few kind h j. bit-open s width n m p e i f o v some few kind h j;
}
