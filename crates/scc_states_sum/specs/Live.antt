-- The elements under indices that aren't static, over the live part of a body and over segments.
use Rattle.std.specs.Prelude.{ℕ, suc, ◌+◌, max, nat_eq, List, [], ◌∷◌, map, Bool, true, false, ◌||◌, Option, Some, None, if◌then◌else◌}
use Rattle.scc_bits.specs.Value.{Number}
use Rattle.scc_core.specs.declared.expr.CoreExpr.{CoreExpr}
use Rattle.scc_core.specs.declared.stmt.CoreStmt.{CoreStmt, fold-CoreStmt}
use Rattle.scc_core.specs.declared.stmt.CoreNode.TheOpen.{CoreNode-F}
use Rattle.scc_core.specs.declared.stmt.CoreNode.TheOpen as node
use Rattle.scc_core.specs.declared.program.Core.{Core}
use Rattle.scc_core.specs.declared.program.CoreProcess.{CoreProcess}
use Rattle.scc_core.specs.declared.program.Sort2.{Sort2}
use Rattle.scc_core.specs.declared.program.Sort2.TheVariants as sort
use Rattle.scc_states_cut.specs.declared.types.SegStmt.{SegStmt, fold-SegStmt}
use Rattle.scc_states_cut.specs.declared.types.SegNode.TheOpen.{SegNode-F}
use Rattle.scc_states_cut.specs.declared.types.SegNode.TheOpen as segment
use Rattle.scc_states.specs.declared.types.Split.{Split}
use Rattle.scc_states_sum.specs.Elements.{total, expr_elements, left_elements}

-- ---- all statements

abbrev pub in_statement : (CoreExpr → Option Number) → CoreNode-F ℕ ℕ → ℕ
in_statement known (node.Assign l e) = left_elements known l + expr_elements known e
in_statement known (node.If t a b) = expr_elements known t + (total a + total b)
in_statement known (node.Block b) = total b
in_statement known (node.Loop n b) = total b
in_statement known (node.Exit n) = 0
in_statement known (node.Wait n) = 0
in_statement known (node.Alias to target) = 0

abbrev pub statement_elements : (CoreExpr → Option Number) → CoreStmt → ℕ
statement_elements known = fold-CoreStmt ℕ ℕ (in_statement known) (λ s. s.node)

abbrev pub in_segment : (CoreExpr → Option Number) → SegNode-F ℕ ℕ → ℕ
in_segment known (segment.Plain s) = statement_elements known s
in_segment known (segment.If t a b) = expr_elements known t + (total a + total b)
in_segment known (segment.Wait n) = 0

abbrev pub segment_statement : (CoreExpr → Option Number) → SegStmt → ℕ
segment_statement known = fold-SegStmt ℕ ℕ (in_segment known) (λ s. s.node)

abbrev pub segment_elements : (CoreExpr → Option Number) → List SegStmt → ℕ
segment_elements known ss = total (map (segment_statement known) ss)

-- the segments of a thread
abbrev pub split_elements : (CoreExpr → Option Number) → Split → ℕ
split_elements known s = segment_elements known s.reset + total (map (segment_elements known) s.segments)

-- ---- the statements that a path comes to

-- what is counted on the paths through a statement, whether one of them comes to its end, and which enclosing blocks one of them
-- leaves, counted outward from 0
pub record Live : Type 0 where
  pub elements : ℕ
  pub ends : Bool
  pub leaves : ℕ → Bool

abbrev pub passed : ℕ → Live
passed n = record { elements = n; ends = true; leaves = λ k. false }

abbrev pub exit : ℕ → Live
exit n = record { elements = 0; ends = false; leaves = λ k. nat_eq k n }

-- one behind another: no path comes to the second where none comes to the end of the first
abbrev pub behind : Live → Live → Live
behind a b = if a.ends then record { elements = a.elements + b.elements; ends = b.ends; leaves = λ k. a.leaves k || b.leaves k } else a

abbrev pub along : List Live → Live
along [] = passed 0
along (l ∷ ls) = behind l (along ls)

-- a test of so many elements, and both branches
abbrev pub either : ℕ → Live → Live → Live
either n a b = record { elements = n + (a.elements + b.elements); ends = a.ends || b.ends; leaves = λ k. a.leaves k || b.leaves k }

-- a static test chooses a branch
abbrev pub tested : Option Number → ℕ → Live → Live → Live
tested None n a b = either n a b
tested (Some v) n a b = if nat_eq v.word 0 then b else a

-- a block ends where its body does, or where a path leaves it
abbrev pub block : Live → Live
block l = record { elements = l.elements; ends = l.ends || l.leaves 0; leaves = λ k. l.leaves (suc k) }

-- a loop goes on until it is left
abbrev pub endless : Live → Live
endless l = record { elements = l.elements; ends = false; leaves = l.leaves }

abbrev pub live_node : (CoreExpr → Option Number) → CoreNode-F Live Live → Live
live_node known (node.Assign l e) = passed (left_elements known l + expr_elements known e)
live_node known (node.If t a b) = tested (known t) (expr_elements known t) (along a) (along b)
live_node known (node.Block b) = block (along b)
live_node known (node.Loop n b) = endless (along b)
live_node known (node.Exit n) = exit n
live_node known (node.Wait n) = passed 0
live_node known (node.Alias to target) = passed 0

abbrev pub live_statement : (CoreExpr → Option Number) → CoreStmt → Live
live_statement known = fold-CoreStmt Live Live (live_node known) (λ s. s.node)

abbrev pub live_body : (CoreExpr → Option Number) → List CoreStmt → Live
live_body known ss = along (map (live_statement known) ss)

-- ---- how deep blocks nest

abbrev pub deepest : List ℕ → ℕ
deepest [] = 0
deepest (n ∷ ns) = max n (deepest ns)

abbrev pub deep_node : CoreNode-F ℕ ℕ → ℕ
deep_node (node.Assign l e) = 0
deep_node (node.If t a b) = max (deepest a) (deepest b)
deep_node (node.Block b) = 1 + deepest b
deep_node (node.Loop n b) = deepest b
deep_node (node.Exit n) = 0
deep_node (node.Wait n) = 0
deep_node (node.Alias to target) = 0

abbrev pub blocks_deep : CoreStmt → ℕ
blocks_deep = fold-CoreStmt ℕ ℕ deep_node (λ s. s.node)

abbrev pub body_deep : List CoreStmt → ℕ
body_deep ss = deepest (map blocks_deep ss)

-- ---- methods and threads

abbrev pub of_method : Sort2 → ℕ → ℕ
of_method sort.Method n = n
of_method sort.Thread n = 0

abbrev pub method_elements : (CoreExpr → Option Number) → CoreProcess → ℕ
method_elements known p = of_method p.sort (live_body known p.body).elements

-- over the live parts of methods, and over the segments of threads
abbrev pub elements_of : (CoreExpr → Option Number) → Core → List Split → ℕ
elements_of known c ss = total (map (method_elements known) c.processes) + total (map (split_elements known) ss)

-- the deepest body of a process
abbrev pub processes_deep : List CoreProcess → ℕ
processes_deep ps = deepest (map (λ p. body_deep p.body) ps)

-- so deep blocks nest at most where the paths are told
abbrev pub most_deep : ℕ
most_deep = 1088
