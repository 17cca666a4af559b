-- How many statements the segments of a thread have together.
use Rattle.std.specs.Prelude.{ℕ, ◌+◌, ◌-◌, ◌^◌, List, [], ◌∷◌, map}
use Rattle.scc_core_spec.specs.Code.{End, size}
use Rattle.scc_core_view.specs.Codes.{stmt_code}
use Rattle.scc_states_cut.specs.declared.types.SegStmt.{SegStmt, fold-SegStmt}
use Rattle.scc_states_cut.specs.declared.types.SegNode.TheOpen.{SegNode-F}
use Rattle.scc_states_cut.specs.declared.types.SegNode.TheOpen as segment
use Rattle.scc_states.specs.declared.types.Split.{Split}

-- the greatest number of 64 bits
abbrev pub most : ℕ
most = 2 ^ 64 - 1

-- the sum of a list
abbrev pub total : List ℕ → ℕ
total [] = 0
total (n ∷ ns) = n + total ns

-- a plain statement has those inside it at every depth, a test both its branches; a wait is one
abbrev pub node_statements : SegNode-F ℕ ℕ → ℕ
node_statements (segment.Plain s) = size (stmt_code s End)
node_statements (segment.If t a b) = 1 + (total a + total b)
node_statements (segment.Wait n) = 1

abbrev pub statement_statements : SegStmt → ℕ
statement_statements = fold-SegStmt ℕ ℕ node_statements (λ s. s.node)

abbrev pub segment_statements : List SegStmt → ℕ
segment_statements ss = total (map statement_statements ss)

-- the segment from the first statement, and those from behind each wait
abbrev pub statements_of : Split → ℕ
statements_of s = segment_statements s.reset + total (map segment_statements s.segments)
