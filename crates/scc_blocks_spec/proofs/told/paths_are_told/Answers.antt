use Rattle.scc_blocks_spec.proofs.Telling.{output_is_missed, variable_is_written, count_is_early, end_is_idle, wait_is_not}
use Rattle.scc_blocks_spec.proofs.told.paths_are_told.Goals as goal

pub returns-clause-misses : goal.returns-clause-misses
returns-clause-misses c = output_is_missed

pub returns-clause-writes : goal.returns-clause-writes
returns-clause-writes c = variable_is_written

pub returns-clause-early : goal.returns-clause-early
returns-clause-early c = count_is_early

pub returns-clause-idle : goal.returns-clause-idle
returns-clause-idle c = end_is_idle

pub returns-clause-waits : goal.returns-clause-waits
returns-clause-waits c = wait_is_not
