use Rattle.scc_bits_kinds.proofs.Low.{low_both, low_either, low_differing}
use Rattle.scc_bits_kinds.proofs.laws.bits_are_in_twos_complement.Goals as goal

pub returns-clause-and : goal.returns-clause-and
returns-clause-and c = low_both

pub returns-clause-or : goal.returns-clause-or
returns-clause-or c = low_either

pub returns-clause-xor : goal.returns-clause-xor
returns-clause-xor c = low_differing
