-- Names that expressions read and statements assign, each once, behind those of a list.
use Rattle.std.specs.Prelude.{Bool, if◌then◌else◌, List, [], ◌∷◌, ◌++◌, map, bytes_eq, Option, Some, None}
use Rattle.std.specs.List.{list_any}
use Rattle.scc_svread_grammar.specs.declared.raw.RawExpr.{RawExpr, fold-RawExpr}
use Rattle.scc_svread_grammar.specs.declared.raw.RawExpr.TheOpen.{RawExpr-F}
use Rattle.scc_svread_grammar.specs.declared.raw.RawExpr.TheOpen as e
use Rattle.scc_svread_grammar.specs.declared.raw.RawStmt.{RawStmt, fold-RawStmt}
use Rattle.scc_svread_grammar.specs.declared.raw.RawArm.{RawArm, fold-RawArm}
use Rattle.scc_svread_grammar.specs.declared.raw.RawStmt.TheOpen.{RawStmt-F, RawArm-F}
use Rattle.scc_svread_grammar.specs.declared.raw.RawStmt.TheOpen as s
use Rattle.scc_svread_grammar.specs.declared.raw.RawSet.{RawSet}
use Rattle.scc_svread_grammar.specs.declared.raw.RawLoad.{RawLoad}
use Rattle.scc_svread_grammar.specs.declared.raw.RawReset.{RawReset}
use Rattle.scc_svread_grammar.specs.declared.raw.RawBlock.{RawBlock}
use Rattle.scc_svread_grammar.specs.declared.raw.RawBlock.TheVariants.{Comb, Edge}
use Rattle.scc_svread_grammar.specs.declared.raw.RawItem.{RawItem}
use Rattle.scc_svread_grammar.specs.declared.raw.RawItem.TheVariants.{Var, Block}
use Rattle.scc_svread_grammar.specs.Lexical.{Bytes}

abbrev pub Names : Type 0
Names = List Bytes

abbrev pub is_among : Names → Bytes → Bool
is_among names name = list_any (bytes_eq name) names

-- a name behind others, unless it stands among them
abbrev pub with_name : Names → Bytes → Names
with_name names name = if is_among names name then names else names ++ name ∷ []

-- names with further ones
abbrev pub Adding : Type 0
Adding = Names → Names

abbrev pub each : List Adding → Adding
each [] names = names
each (f ∷ fs) names = each fs (f names)

-- ---- expressions

abbrev pub read_node : RawExpr-F Adding → Adding
read_node (e.Literal l) names = names
read_node (e.Left l) names = with_name names l.name
read_node (e.Unary op a) names = a names
read_node (e.Binary op a b) names = b (a names)
read_node (e.Cond c a b) names = b (a (c names))
read_node (e.Concat parts) names = each parts names
read_node (e.Cast w a) names = a names
read_node (e.Sign signed a) names = a names

abbrev pub read_by : RawExpr → Adding
read_by = fold-RawExpr Adding read_node

-- ---- statements

abbrev pub stmt_node_read : RawStmt-F Adding Adding → Adding
stmt_node_read (s.Assign l x) names = read_by x names
stmt_node_read (s.If c then_part else_part) names = each else_part (each then_part (read_by c names))
stmt_node_read (s.Case x arms) names = each arms (read_by x names)

abbrev pub arm_node_names : RawArm-F Adding Adding → Adding
arm_node_names a = each a.body

abbrev pub read_in : RawStmt → Adding
read_in = fold-RawStmt Adding Adding stmt_node_read arm_node_names

abbrev pub read_in_arm : RawArm → Adding
read_in_arm = fold-RawArm Adding Adding stmt_node_read arm_node_names

abbrev pub stmt_node_assigned : RawStmt-F Adding Adding → Adding
stmt_node_assigned (s.Assign l x) names = with_name names l.name
stmt_node_assigned (s.If c then_part else_part) names = each else_part (each then_part names)
stmt_node_assigned (s.Case x arms) names = each arms names

abbrev pub assigned_in : RawStmt → Adding
assigned_in = fold-RawStmt Adding Adding stmt_node_assigned arm_node_names

abbrev pub assigned_in_arm : RawArm → Adding
assigned_in_arm = fold-RawArm Adding Adding stmt_node_assigned arm_node_names

-- ---- blocks

abbrev pub set_read : RawSet → Adding
set_read u = read_by u.value

abbrev pub set_assigned : RawSet → Adding
set_assigned u names = with_name names u.target

abbrev pub load_assigned : RawLoad → Adding
load_assigned l names = with_name names l.target

abbrev pub reset_assigned : Option RawReset → Adding
reset_assigned None names = names
reset_assigned (Some r) names = each (map load_assigned r.values) names

abbrev pub block_read : RawBlock → Adding
block_read (Comb ss) = each (map read_in ss)
block_read (Edge rising clock reset sets) = each (map set_read sets)

abbrev pub block_assigned : RawBlock → Adding
block_assigned (Comb ss) names = each (map assigned_in ss) names
block_assigned (Edge rising clock reset sets) names = each (map set_assigned sets) (reset_assigned reset names)

abbrev pub item_read : RawItem → Adding
item_read (Var v) names = names
item_read (Block b) names = block_read b names

abbrev pub item_assigned : RawItem → Adding
item_assigned (Var v) names = names
item_assigned (Block b) names = block_assigned b names
