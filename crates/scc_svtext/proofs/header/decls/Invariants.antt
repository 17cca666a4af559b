use Rattle.std.proofs.Common.{◌≡◌, ◌++◌, flat_map, take}
use Rattle.scc_svtext.specs.ModuleText.{decl_text}
use Rattle.scc_svtext.proofs.header.decls.Given as goal

abbrev pub invariant-loop-v : goal.invariant-loop-v
invariant-loop-v l = l.out ≡ l.initial.out ++ flat_map (decl_text) (take l.v-index l.list)
