use Rattle.std.proofs.Common.{length}
use Rattle.scc_svread_expressions.proofs.bytes.+text.Given as goal

abbrev pub decreases-text : goal.decreases-text
decreases-text l = length l.word.now
