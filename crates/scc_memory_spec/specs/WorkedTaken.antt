-- A worked value: a buffer of two elements of 4 bits, as code. This project's own.
-- `m[i] = d; x = m[i];` for an index i of one bit, and an edge that keeps both; and the same edge where a reset clears the elements.
use Rattle.std.specs.Prelude.{ℕ, true, List, [], ◌∷◌, Option, None, codes}
use Rattle.scc_svtree.specs.declared.module.SvVar.{SvVar}
use Rattle.scc_svtree.specs.declared.expr.SvLeft.TheVariants.{Whole}
use Rattle.scc_svtree.specs.Term.{Term}
use Rattle.scc_svtree.specs.Code.{Code, End, Assign, Case, Arm}
use Rattle.scc_svtree.specs.Code as code
use Rattle.scc_blocks_spec.specs.Renamed.{BlockCode, Comb, Edge, ResetCode}
use Rattle.scc_memory_spec.specs.Array.{Array, tree, whole}
use Rattle.scc_memory_spec.specs.Worked.{of_width}

abbrev pub buffer_vars : List SvVar
buffer_vars = of_width 4 (codes "m$0") ∷ of_width 4 (codes "m$0$$n") ∷ of_width 4 (codes "m$1") ∷ of_width 4 (codes "m$1$$n") ∷ of_width 1 (codes "i") ∷ of_width 4 (codes "d") ∷ of_width 4 (codes "x")
    ∷ of_width 1 (codes "c") ∷ of_width 1 (codes "r") ∷ []

abbrev pub buffer : Array
buffer = record { name = codes "m"; elements = 0 ∷ 2 ∷ []; nexts = 1 ∷ 3 ∷ [] }

abbrev pub puts : ℕ → Term → Code → Code
puts v e rest = Assign (Whole (record { 0 = v })) e rest

-- behind the first assignments
abbrev pub buffer_uses : Code
buffer_uses = Case (whole 4) (Arm 1 0 (puts 1 (whole 5) End) (Arm 1 1 (puts 3 (whole 5) End) code.None)) (puts 6 (tree buffer 4 1 2) End)

abbrev pub buffer_edge : Option ResetCode → BlockCode
buffer_edge reset = Edge true 7 reset (record { target = 0; value = whole 1 } ∷ record { target = 2; value = whole 3 } ∷ [])

-- an edge that keeps both, and gives x the element at i
abbrev pub choosing_edge : BlockCode
choosing_edge = Edge true 7 None (record { target = 0; value = whole 1 } ∷ record { target = 2; value = whole 3 } ∷ record { target = 6; value = tree buffer 4 1 2 } ∷ [])

abbrev pub buffer_blocks : Option ResetCode → List BlockCode
buffer_blocks reset = Comb (puts 1 (whole 0) (puts 3 (whole 2) buffer_uses)) ∷ buffer_edge reset ∷ []

abbrev pub clearing : ResetCode
clearing = record { signal = 8; rising = true; values = record { target = 0; word = 0 } ∷ record { target = 2; word = 0 } ∷ [] }
