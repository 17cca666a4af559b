use Rattle.scc_grammar_spelling.proofs.Spelled.{words_have_one, marks_have_one}
use Rattle.scc_grammar_spelling.proofs.laws.numbers_have_one_spelling.Goals as goal

pub returns-clause-words : goal.returns-clause-words
returns-clause-words c = words_have_one

pub returns-clause-marks : goal.returns-clause-marks
returns-clause-marks c = marks_have_one
