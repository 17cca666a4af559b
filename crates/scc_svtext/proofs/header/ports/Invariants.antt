use Rattle.std.proofs.Common.{◌≡◌, ◌++◌, drop}
use Rattle.scc_svtext.specs.ModuleText.{ports_text}
use Rattle.scc_svtext.proofs.header.ports.Given as goal

abbrev pub invariant-loop-v : goal.invariant-loop-v
invariant-loop-v l = l.out ++ ports_text l.more (drop l.v-index l.list) ≡ l.initial.out ++ ports_text l.initial.more l.list
