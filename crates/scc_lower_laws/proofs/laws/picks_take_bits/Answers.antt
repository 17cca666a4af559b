use Rattle.scc_lower_laws.proofs.Leaves.{picks-range, picks-bit}
use Rattle.scc_lower_laws.proofs.laws.picks_take_bits.Goals as goal

pub returns : goal.returns
returns c = record {
  ranges = λ s bits h l. picks-range s bits h l;
  known = λ s bits b i k o. picks-bit s bits b i k o;
}
