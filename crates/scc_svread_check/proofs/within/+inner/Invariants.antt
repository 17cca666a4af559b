use Rattle.std.proofs.Common.{◌≡◌, map, drop}
use Rattle.scc_svread_check.specs.Within.{arms_names, chosen_of, inner, known, stmt_names}
use Rattle.scc_svread_check.proofs.within.+inner.Given as goal

abbrev pub invariant-inner-loop-s : goal.invariant-inner-loop-s
invariant-inner-loop-s l = inner (map (stmt_names (known l.c.inputs.now l.c.taken.now l.c.assigned.now l.c.whole.now)) (drop l.s-index l.list)) l.n l.walk ≡ inner (map (stmt_names (known l.c.inputs.now l.c.taken.now l.c.assigned.now l.c.whole.now)) l.list) l.n l.fn.w

abbrev pub invariant-arms-loop-a : goal.invariant-arms-loop-a
invariant-arms-loop-a l = arms_names (map (chosen_of (known l.c.inputs.now l.c.taken.now l.c.assigned.now l.c.whole.now)) (drop l.a-index l.list)) l.n l.walk ≡ arms_names (map (chosen_of (known l.c.inputs.now l.c.taken.now l.c.assigned.now l.c.whole.now)) l.list) l.n l.fn.w
