use Rattle.std.proofs.Common.{◌≡◌, ◌≤◌, min, drop}
use Rattle.scc_svread_grammar.specs.Lexical.{number, number_from}
use Rattle.scc_svread_check.specs.Scope.{greatest}
use Rattle.scc_svread_check.proofs.number.decimal.Given as goal

abbrev pub invariant-loop-b : goal.invariant-loop-b
invariant-loop-b l = (min (number_from l.n (drop l.b-index l.digits)) greatest ≡ min (number l.digits) greatest) × (l.n ≤ greatest)
