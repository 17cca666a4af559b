use Rattle.scc_pointers_numbers.proofs.Renamed.{copy_says, left_copy_says}
use Rattle.scc_pointers_numbers.proofs.laws.numbered_copies_are_renamed.Goals as goal

pub returns-clause-expressions : goal.returns-clause-expressions
returns-clause-expressions c = λ f e. copy_says f e

pub returns-clause-locations : goal.returns-clause-locations
returns-clause-locations c = λ f l. (left_copy_says f l).left

pub returns-clause-picks : goal.returns-clause-picks
returns-clause-picks c = λ f l. (left_copy_says f l).pick
