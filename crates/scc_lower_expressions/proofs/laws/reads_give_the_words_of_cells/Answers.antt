use Rattle.scc_lower_expressions.proofs.Reading.{read_gives}
use Rattle.scc_lower_expressions.proofs.laws.reads_give_the_words_of_cells.Goals as goal

pub returns : goal.returns
returns c = λ wide width x v k u h l word s n i f a b. read_gives wide width x v k u h l word s n i f a b
