use Rattle.std.proofs.Common.{◌≡◌, ◌+◌, ◌*◌, length}
use Rattle.scc_reading.specs.Reading.{repeat}
use Rattle.scc_reading.proofs.Loop.{before}
use Rattle.scc_svread_grammar.specs.Reader as p
use Rattle.scc_svread_raw.proofs.stmt.+reading_stmt.Given as goal

abbrev pub decreases-open_stmt : goal.decreases-open_stmt
decreases-open_stmt l = 64 * l.levels + 0

abbrev pub decreases-line : goal.decreases-line
decreases-line l = 64 * l.levels + 1

abbrev pub decreases-more_stmts : goal.decreases-more_stmts
decreases-more_stmts l = 64 * l.levels + 2

abbrev pub decreases-body : goal.decreases-body
decreases-body l = 64 * l.levels + 3

abbrev pub decreases-other : goal.decreases-other
decreases-other l = 64 * l.levels + 5

abbrev pub decreases-behind_end : goal.decreases-behind_end
decreases-behind_end l = 64 * l.levels + 6

abbrev pub decreases-branches : goal.decreases-branches
decreases-branches l = 64 * l.levels + 8

abbrev pub decreases-arm_body : goal.decreases-arm_body
decreases-arm_body l = 64 * l.levels + 4

abbrev pub decreases-arm_line : goal.decreases-arm_line
decreases-arm_line l = 64 * l.levels + 8

abbrev pub decreases-arms : goal.decreases-arms
decreases-arms l = 64 * l.levels + 9

abbrev pub decreases-case_behind : goal.decreases-case_behind
decreases-case_behind l = 64 * l.levels + 10

abbrev pub decreases-behind_word : goal.decreases-behind_word
decreases-behind_word l = 64 * l.levels + 11

abbrev pub decreases-stmt : goal.decreases-stmt
decreases-stmt l = 64 * l.levels + 12

abbrev pub invariant-more_stmts-loop-alloc : goal.invariant-more_stmts-loop-alloc
invariant-more_stmts-loop-alloc l = before l.found (repeat p.is_blank (p.line (p.inner l.levels) l.outer) l.rest) ≡ before l.fn.front (repeat p.is_blank (p.line (p.inner l.levels) l.outer) l.fn.ts)

abbrev pub decreases-more_stmts-loop-alloc : goal.decreases-more_stmts-loop-alloc
decreases-more_stmts-loop-alloc l = length l.rest

abbrev pub invariant-arms-loop-alloc : goal.invariant-arms-loop-alloc
invariant-arms-loop-alloc l = before l.found (repeat p.is_blank (p.arm_line (p.inner l.levels) l.outer) l.rest) ≡ repeat p.is_blank (p.arm_line (p.inner l.levels) l.outer) l.fn.ts

abbrev pub decreases-arms-loop-alloc : goal.decreases-arms-loop-alloc
decreases-arms-loop-alloc l = length l.rest

abbrev pub decreases-stmts_behind : goal.decreases-stmts_behind
decreases-stmts_behind l = 64 * l.levels + 3
