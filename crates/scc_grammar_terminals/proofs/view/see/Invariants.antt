use Rattle.std.proofs.Common.{◌≡◌, map, take}
use Rattle.scc_grammar_terminals.specs.View.{seen_of}
use Rattle.scc_grammar_terminals.proofs.view.see.Given as goal

abbrev pub invariant-loop-token : goal.invariant-loop-token
invariant-loop-token l = l.list ≡ map seen_of (take l.token-index l.tokens)
