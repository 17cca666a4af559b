use Rattle.std.proofs.Common.{◌≡◌, length}
use Rattle.scc_grammar_terminals.specs.Answer.{onto}
use Rattle.scc_grammar_spec.specs.ParseStatements as s
use Rattle.scc_grammar_spec.specs.ParseStatements.{inner}
use Rattle.scc_grammar_statements.proofs.stmt.body_stmts.Given as goal

abbrev pub invariant-loop-c : goal.invariant-loop-c
invariant-loop-c l = onto l.found (s.stmts_of l.c.names.now (inner l.c.names.now l.c.levels) (s.stmt l.c.names.now (inner l.c.names.now l.c.levels))) l.rest ≡ (s.stmts_of l.c.names.now (inner l.c.names.now l.c.levels) (s.stmt l.c.names.now (inner l.c.names.now l.c.levels))) l.fn.ts

abbrev pub decreases-loop-c : goal.decreases-loop-c
decreases-loop-c l = length l.rest
