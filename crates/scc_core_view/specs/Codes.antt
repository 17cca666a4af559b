-- The code that a core's statements stand for. This project's own.
use Rattle.std.specs.Prelude.{List, [], ◌∷◌, map, Option, Some, None}
use Rattle.scc_base.specs.declared.refusal.Place.{Place}
use Rattle.scc_core.specs.declared.stmt.CoreStmt.{CoreStmt, fold-CoreStmt}
use Rattle.scc_core.specs.declared.stmt.CoreNode.TheOpen.{CoreNode-F, CoreStmt-F}
use Rattle.scc_core.specs.declared.stmt.CoreNode.TheOpen as node
use Rattle.scc_core.specs.declared.stmt.Count.{Count as Counting}
use Rattle.scc_core.specs.declared.stmt.Pointed.{Pointed as Aimed}
use Rattle.scc_core.specs.declared.stmt.Pointed.TheVariants as aimed
use Rattle.scc_core_spec.specs.Code.{Code, Count, Pointed}
use Rattle.scc_core_spec.specs.Code as code
use Rattle.scc_core_view.specs.Terms.{term_of, taken_of}

abbrev pub count_of : Counting → Count
count_of c = record { cell = c.cell; start = term_of c.start; compare = c.compare; bound = term_of c.bound; step_op = c.step_op; step = term_of c.step }

abbrev pub counted : Option Counting → Option Count
counted None = None
counted (Some c) = Some (count_of c)

abbrev pub pointed_of : Aimed → Pointed
pointed_of (aimed.Declared c) = code.Declared c
pointed_of (aimed.Assigned l) = code.Assigned (taken_of l).left

-- a list of statements before what follows
abbrev pub before : List (Code → Code) → Code → Code
before [] c = c
before (f ∷ fs) c = f (before fs c)

-- the layers of a statement over what its parts stand for; waits have the number 0, which `numbered` sets
abbrev pub Node : Type 0
Node = Place → Code → Code

abbrev pub stmt_node : CoreNode-F Node (Code → Code) → Node
stmt_node (node.Assign l e) p rest = code.Put p (taken_of l).left (taken_of l).pick (term_of e) rest
stmt_node (node.If t a b) p rest = code.If p (term_of t) (before a code.End) (before b code.End) rest
stmt_node (node.Block b) p rest = code.Block p (before b code.End) rest
stmt_node (node.Loop n b) p rest = code.Loop p (counted n) (before b code.End) rest
stmt_node (node.Exit n) p rest = code.Exit p n rest
stmt_node (node.Wait n) p rest = code.Wait p 0 n rest
stmt_node (node.Alias to target) p rest = code.Aim p (pointed_of to) (taken_of target).left rest

abbrev pub stmt_step : CoreStmt-F Node (Code → Code) → Code → Code
stmt_step s = s.node s.place

-- a statement before what follows
abbrev pub stmt_code : CoreStmt → Code → Code
stmt_code = fold-CoreStmt Node (Code → Code) stmt_node stmt_step

-- the code of a list of statements
abbrev pub code_of : List CoreStmt → Code
code_of ss = before (map stmt_code ss) code.End
