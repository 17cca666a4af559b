-- The code that a plain program's statements stand for. This project's own.
use Rattle.std.specs.Prelude.{List, [], ◌∷◌, map, option_map}
use Rattle.scc_base.specs.declared.refusal.Place.{Place}
use Rattle.scc_plain_tree.specs.declared.program.Base.{Base as Held}
use Rattle.scc_plain_tree.specs.declared.program.Base.TheVariants as held
use Rattle.scc_plain_tree.specs.declared.stmt.PlainStmt.{PlainStmt, fold-PlainStmt}
use Rattle.scc_plain_tree.specs.declared.stmt.PlainNode.TheOpen.{PlainNode-F, PlainStmt-F}
use Rattle.scc_plain_tree.specs.declared.stmt.PlainNode.TheOpen as node
use Rattle.scc_plain_tree.specs.declared.stmt.PlainCount.{PlainCount}
use Rattle.scc_plain_tree.specs.declared.stmt.PlainSense.{PlainSense}
use Rattle.scc_elab_spec.specs.Program.{Base, Code, Count, Sense}
use Rattle.scc_elab_spec.specs.Program as code
use Rattle.scc_plain_view.specs.Terms.{term_of, taken_of, left_of, target_of, argument_of}

abbrev pub base_of : Held → Base
base_of (held.Number k) = code.Number k
base_of (held.Class c) = code.OfClass c
base_of (held.Input k) = code.Input k
base_of (held.Output k) = code.Output k
base_of (held.Signal k) = code.Signal k
base_of held.ModuleName = code.Named

abbrev pub count_of : PlainCount → Count
count_of c = record { counter = c.counter; start = term_of c.start; compare = c.compare; bound = term_of c.bound; step_op = c.step_op; step = term_of c.step }

abbrev pub sense_of : PlainSense → Sense
sense_of s = record { place = s.place; signal = option_map left_of s.signal; rising = s.rising }

-- a list of statements before what follows
abbrev pub before : List (Code → Code) → Code → Code
before [] c = c
before (f ∷ fs) c = f (before fs c)

-- the layers of a statement over what its parts stand for
abbrev pub Node : Type 0
Node = Place → Code → Code

abbrev pub stmt_node : PlainNode-F Node (Code → Code) → Node
stmt_node (node.Declare n) p rest = code.Declare p n rest
stmt_node (node.Assign l e) p rest = code.Assign p (taken_of l).left (taken_of l).pick (term_of e) rest
stmt_node (node.Point l t) p rest = code.Point p (left_of l) (target_of t) rest
stmt_node (node.Write l e) p rest = code.Write p (left_of l) (term_of e) rest
stmt_node (node.Call n f o args) p rest = code.Call p n f (option_map left_of o) (map argument_of args) rest
stmt_node (node.If t a b) p rest = code.If p (term_of t) (before a code.End) (before b code.End) rest
stmt_node (node.Loop c b) p rest = code.Loop p (option_map count_of c) (before b code.End) rest
stmt_node (node.Block b) p rest = code.Block p (before b code.End) rest
stmt_node (node.Exit n) p rest = code.Exit p n rest
stmt_node (node.Return e) p rest = code.Return p (option_map term_of e) rest
stmt_node (node.Wait n) p rest = code.Wait p n rest
stmt_node (node.Make l b args) p rest = code.Make p (left_of l) (base_of b) (map argument_of args) rest
stmt_node (node.Bind l to) p rest = code.Bind p (left_of l) (option_map left_of to) rest
stmt_node (node.Process t f e) p rest = code.Process p t f (option_map sense_of e) rest
stmt_node (node.Sense items) p rest = code.Sensitive p (map sense_of items) rest
stmt_node node.Quiet p rest = code.Quiet p rest
stmt_node (node.Reset s e a) p rest = code.Reset p (option_map left_of s) (term_of e) a rest

abbrev pub stmt_step : PlainStmt-F Node (Code → Code) → Code → Code
stmt_step s = s.node s.place

-- a statement before what follows
abbrev pub stmt_code : PlainStmt → Code → Code
stmt_code = fold-PlainStmt Node (Code → Code) stmt_node stmt_step

-- the code of a list of statements
abbrev pub code_of : List PlainStmt → Code
code_of ss = before (map stmt_code ss) code.End
