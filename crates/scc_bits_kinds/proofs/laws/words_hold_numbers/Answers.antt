use Rattle.scc_bits_kinds.proofs.Low.{read_low, low_reading, holds_reading}
use Rattle.scc_bits_kinds.proofs.laws.words_hold_numbers.Goals as goal

pub returns-clause-read : goal.returns-clause-read
returns-clause-read c = read_low

pub returns-clause-written : goal.returns-clause-written
returns-clause-written c = low_reading

pub returns-clause-held : goal.returns-clause-held
returns-clause-held c = holds_reading
