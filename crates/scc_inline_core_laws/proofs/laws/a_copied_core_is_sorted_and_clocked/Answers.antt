use Rattle.scc_inline_core_laws.proofs.CopiedCore.{sorted, clocked}
use Rattle.scc_inline_core_laws.proofs.laws.a_copied_core_is_sorted_and_clocked.Goals as goal

pub returns-clause-sorted : goal.returns-clause-sorted
returns-clause-sorted c = λ p d ord laid. sorted p d laid ord

pub returns-clause-clocked : goal.returns-clause-clocked
returns-clause-clocked c = λ p d ord laid. clocked p d laid ord
