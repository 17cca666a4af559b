use Rattle.std.proofs.Common.{◌≡◌, take}
use Rattle.scc_svtext.specs.ModuleText.{names_of}
use Rattle.scc_svtext.proofs.spelling.spellings.Given as goal

abbrev pub invariant-loop-v : goal.invariant-loop-v
invariant-loop-v l = l.names ≡ names_of (take l.v-index l.vars)
