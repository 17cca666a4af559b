use Rattle.std.proofs.Common.{◌≡◌, [], map, drop}
use Rattle.scc_svread_check.specs.Lines.{choice_of, choices, line_of, lines}
use Rattle.scc_svread_check.proofs.stmt.+stmts.Given as goal

abbrev pub invariant-stmts-loop-s : goal.invariant-stmts-loop-s
invariant-stmts-loop-s l = lines (map (line_of l.scope) (drop l.s-index l.list)) l.n l.walk ≡ lines (map (line_of l.scope) l.list) l.n l.fn.w

abbrev pub invariant-choices-loop-a : goal.invariant-choices-loop-a
invariant-choices-loop-a l = choices l.bits l.labels (map (choice_of l.scope) (drop l.a-index l.arms)) l.n l.walk ≡ choices l.bits [] (map (choice_of l.scope) l.arms) l.n l.fn.w
