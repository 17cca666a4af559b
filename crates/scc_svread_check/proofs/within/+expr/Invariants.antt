use Rattle.std.proofs.Common.{◌≡◌, map, drop}
use Rattle.scc_svread_check.specs.Within.{expr_names, known, parts_names}
use Rattle.scc_svread_check.proofs.within.+expr.Given as goal

abbrev pub invariant-exprs-loop-e : goal.invariant-exprs-loop-e
invariant-exprs-loop-e l = parts_names l.lead (map (expr_names (known l.c.inputs.now l.c.taken.now l.c.assigned.now l.c.whole.now)) (drop l.e-index l.list)) l.walk ≡ parts_names 1 (map (expr_names (known l.c.inputs.now l.c.taken.now l.c.assigned.now l.c.whole.now)) l.list) l.fn.w
