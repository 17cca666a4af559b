use Rattle.std.proofs.Common.{◌≡◌, ◌+◌, ◌*◌, length}
use Rattle.scc_grammar_terminals.specs.Answer.{onto}
use Rattle.scc_grammar_spec.specs.ParseStatements as s
use Rattle.scc_grammar_spec.specs.ParseStatements.{inner}
use Rattle.scc_grammar_statements.proofs.stmt.+statement.Given as goal

abbrev pub decreases-open_stmt : goal.decreases-open_stmt
decreases-open_stmt l = 8 * l.c.levels + 0

abbrev pub decreases-other : goal.decreases-other
decreases-other l = 8 * l.c.levels + 1

abbrev pub decreases-if_rest : goal.decreases-if_rest
decreases-if_rest l = 8 * l.c.levels + 2

abbrev pub decreases-while_rest : goal.decreases-while_rest
decreases-while_rest l = 8 * l.c.levels + 1

abbrev pub decreases-do_rest : goal.decreases-do_rest
decreases-do_rest l = 8 * l.c.levels + 1

abbrev pub decreases-for_body : goal.decreases-for_body
decreases-for_body l = 8 * l.c.levels + 1

abbrev pub decreases-for_rest : goal.decreases-for_rest
decreases-for_rest l = 8 * l.c.levels + 3

abbrev pub decreases-for_last : goal.decreases-for_last
decreases-for_last l = 8 * l.c.levels + 2

abbrev pub decreases-switch_item : goal.decreases-switch_item
decreases-switch_item l = 8 * l.c.levels + 1

abbrev pub decreases-switch_items : goal.decreases-switch_items
decreases-switch_items l = 8 * l.c.levels + 2

abbrev pub decreases-switch_rest : goal.decreases-switch_rest
decreases-switch_rest l = 8 * l.c.levels + 3

abbrev pub decreases-inner_stmt : goal.decreases-inner_stmt
decreases-inner_stmt l = 8 * l.c.levels + 1

abbrev pub decreases-inner_stmts : goal.decreases-inner_stmts
decreases-inner_stmts l = 8 * l.c.levels + 2

abbrev pub decreases-block_rest : goal.decreases-block_rest
decreases-block_rest l = 8 * l.c.levels + 3

abbrev pub decreases-word_stmt : goal.decreases-word_stmt
decreases-word_stmt l = 8 * l.c.levels + 4

abbrev pub decreases-stmt : goal.decreases-stmt
decreases-stmt l = 8 * l.c.levels + 5

abbrev pub invariant-switch_items-loop-c : goal.invariant-switch_items-loop-c
invariant-switch_items-loop-c l = onto l.found (s.switch_items l.c.names.now (inner l.c.names.now l.c.levels)) l.rest ≡ (s.switch_items l.c.names.now (inner l.c.names.now l.c.levels)) l.fn.ts

abbrev pub decreases-switch_items-loop-c : goal.decreases-switch_items-loop-c
decreases-switch_items-loop-c l = length l.rest

abbrev pub invariant-inner_stmts-loop-c : goal.invariant-inner_stmts-loop-c
invariant-inner_stmts-loop-c l = onto l.found (s.stmts_of l.c.names.now (inner l.c.names.now l.c.levels) (inner l.c.names.now l.c.levels).stmt) l.rest ≡ (s.stmts_of l.c.names.now (inner l.c.names.now l.c.levels) (inner l.c.names.now l.c.levels).stmt) l.fn.ts

abbrev pub decreases-inner_stmts-loop-c : goal.decreases-inner_stmts-loop-c
decreases-inner_stmts-loop-c l = length l.rest
