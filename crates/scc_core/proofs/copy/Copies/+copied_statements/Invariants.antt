use Rattle.std.proofs.Common.{◌≡◌, take}
use Rattle.scc_core.specs.Copies.{IsPlain}
use Rattle.scc_core.proofs.copy.Copies.+copied_statements.Given as goal

abbrev pub invariant-stmts-loop-s : goal.invariant-stmts-loop-s
invariant-stmts-loop-s l = IsPlain l.self → l.made ≡ take l.s-index l.list
