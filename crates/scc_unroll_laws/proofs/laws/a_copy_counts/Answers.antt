use Rattle.scc_unroll_laws.proofs.Counting.{copy_says, left_copy_says}
use Rattle.scc_unroll_laws.proofs.laws.a_copy_counts.Goals as goal

pub returns-clause-terms : goal.returns-clause-terms
returns-clause-terms c = copy_says

pub returns-clause-lefts : goal.returns-clause-lefts
returns-clause-lefts c = λ ns l. (left_copy_says ns l).left

pub returns-clause-picks : goal.returns-clause-picks
returns-clause-picks c = λ ns l. (left_copy_says ns l).pick
