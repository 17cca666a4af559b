use Rattle.scc_core_resolvable_laws.proofs.Clocked.{clocked-unrolled}
use Rattle.scc_core_resolvable_laws.proofs.Kept.{told-unrolled, sorted-unrolled}
use Rattle.scc_core_resolvable_laws.proofs.laws.an_unrolled_core_is_told_sorted_and_clocked.Goals as goal

pub returns-clause-told : goal.returns-clause-told
returns-clause-told c = λ p told. told-unrolled p told

pub returns-clause-sorted : goal.returns-clause-sorted
returns-clause-sorted c = λ p sorted. sorted-unrolled p sorted

pub returns-clause-clocked : goal.returns-clause-clocked
returns-clause-clocked c = λ p clocked. clocked-unrolled p clocked
