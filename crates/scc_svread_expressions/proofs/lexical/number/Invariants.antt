use Rattle.std.proofs.Common.{◌≡◌, ◌-◌, ◌^◌, ◌≤◌, min, drop}
use Rattle.scc_svread_grammar.specs.Lexical.{number, number_from}
use Rattle.scc_svread_expressions.proofs.lexical.number.Given as goal

abbrev pub invariant-loop-b : goal.invariant-loop-b
invariant-loop-b l = (min (number_from l.n (drop l.b-index l.digits)) (2 ^ 128 - 1) ≡ min (number l.digits) (2 ^ 128 - 1)) × (l.n ≤ 2 ^ 128 - 1)
