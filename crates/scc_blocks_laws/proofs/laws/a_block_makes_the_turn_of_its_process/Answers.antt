use Rattle.scc_blocks_run_laws.proofs.Blockruns.{block-leaves}
use Rattle.scc_blocks_laws.proofs.laws.a_block_makes_the_turn_of_its_process.Goals as goal

pub returns : goal.returns
returns c = block-leaves
