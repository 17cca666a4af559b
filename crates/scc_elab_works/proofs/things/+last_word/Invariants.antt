use Rattle.std.proofs.Common.{length}
use Rattle.scc_elab_works.proofs.things.+last_word.Given as goal

abbrev pub decreases-last_word : goal.decreases-last_word
decreases-last_word l = length l.list.now
