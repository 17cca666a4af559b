-- The module that a text says, from the text as it is written. It may have wrong sizes, names and drivers.
use Rattle.std.specs.Prelude.{ℕ, ◌+◌, ◌-◌, ◌^◌, min, List, [], ◌∷◌, ◌++◌, map, bytes_eq, option_map, position, unwrap_or, Option, Some, None}
use Rattle.scc_bits_kinds.specs.declared.kind.Word.{Word}
use Rattle.scc_svtree.specs.declared.expr.VarId.{VarId}
use Rattle.scc_svtree.specs.declared.expr.SvLiteral.{SvLiteral}
use Rattle.scc_svtree.specs.declared.expr.SvExpr.{SvExpr}
use Rattle.scc_svtree.specs.declared.expr.SvExprNode.{SvExprNode, roll-SvExprNode}
use Rattle.scc_svtree.specs.declared.expr.SvExprNode.TheOpen as node
use Rattle.scc_svtree.specs.declared.expr.SvLeft.{SvLeft}
use Rattle.scc_svtree.specs.declared.expr.SvLeft.TheVariants as left
use Rattle.scc_svtree.specs.declared.stmt.SvStmt.{SvStmt, roll-SvStmt}
use Rattle.scc_svtree.specs.declared.stmt.SvStmt.TheOpen as stmt
use Rattle.scc_svtree.specs.declared.stmt.SvArm.{SvArm, roll-SvArm}
use Rattle.scc_svtree.specs.declared.module.SvModule.{SvModule}
use Rattle.scc_svtree.specs.declared.module.SvVar.{SvVar}
use Rattle.scc_svtree.specs.declared.module.SvBlock.{SvBlock}
use Rattle.scc_svtree.specs.declared.module.SvBlock.TheVariants as block
use Rattle.scc_svtree.specs.declared.module.SvSet.{SvSet}
use Rattle.scc_svtree.specs.declared.module.SvReset.{SvReset}
use Rattle.scc_svtree.specs.declared.module.SvLoad.{SvLoad}
use Rattle.scc_svread_grammar.specs.declared.raw.RawLiteral.{RawLiteral}
use Rattle.scc_svread_grammar.specs.declared.raw.RawSelect.{RawSelect}
use Rattle.scc_svread_grammar.specs.declared.raw.RawSelect.TheVariants.{Whole, Bit, Range}
use Rattle.scc_svread_grammar.specs.declared.raw.RawLeft.{RawLeft}
use Rattle.scc_svread_grammar.specs.declared.raw.RawExpr.{RawExpr, fold-RawExpr}
use Rattle.scc_svread_grammar.specs.declared.raw.RawExpr.TheOpen.{RawExpr-F}
use Rattle.scc_svread_grammar.specs.declared.raw.RawExpr.TheOpen as e
use Rattle.scc_svread_grammar.specs.declared.raw.RawStmt.{RawStmt, fold-RawStmt}
use Rattle.scc_svread_grammar.specs.declared.raw.RawArm.{RawArm, fold-RawArm}
use Rattle.scc_svread_grammar.specs.declared.raw.RawStmt.TheOpen.{RawStmt-F, RawArm-F}
use Rattle.scc_svread_grammar.specs.declared.raw.RawStmt.TheOpen as s
use Rattle.scc_svread_grammar.specs.declared.raw.RawSet.{RawSet}
use Rattle.scc_svread_grammar.specs.declared.raw.RawLoad.{RawLoad}
use Rattle.scc_svread_grammar.specs.declared.raw.RawReset.{RawReset}
use Rattle.scc_svread_grammar.specs.declared.raw.RawBlock.{RawBlock}
use Rattle.scc_svread_grammar.specs.declared.raw.RawBlock.TheVariants.{Comb, Edge}
use Rattle.scc_svread_grammar.specs.declared.raw.RawVar.{RawVar}
use Rattle.scc_svread_grammar.specs.declared.raw.RawItem.{RawItem}
use Rattle.scc_svread_grammar.specs.declared.raw.RawItem.TheVariants.{Var, Block}
use Rattle.scc_svread_grammar.specs.declared.raw.RawModule.{RawModule}
use Rattle.scc_svread_grammar.specs.Lexical.{Bytes}
use Rattle.scc_svread_check.specs.Numbers.{small_number, word_number}
use Rattle.scc_svread_check.specs.Mentioned.{with_name}

-- ---- leaves

abbrev pub word_of : ℕ → Word
word_of bits = record { bits = bits }

-- a number in a width (IEEE 1800-2017, 5.7.1)
abbrev pub literal_of : RawLiteral → SvLiteral
literal_of l = record { width = small_number l.width; value = word_of (word_number l.digits) }

-- the names, each where it is first declared
abbrev pub with_names : List Bytes → List Bytes → List Bytes
with_names before [] = before
with_names before (name ∷ more) = with_names (with_name before name) more

-- the number of a name, 0 where there is no such
abbrev pub number_of : List Bytes → Bytes → ℕ
number_of names name = unwrap_or (position (bytes_eq name) names) 0

abbrev pub var_of : List Bytes → Bytes → VarId
var_of names name = record { 0 = number_of names name }

-- a variable, one bit of it, or its bits h down to l (IEEE 1800-2017, 11.5.1)
abbrev pub part_of : VarId → RawSelect → SvLeft
part_of v Whole = left.Whole v
part_of v (Bit at) = left.Bit v (small_number at)
part_of v (Range h l) = left.Range v (small_number h) (small_number l)

abbrev pub left_of : List Bytes → RawLeft → SvLeft
left_of names l = part_of (var_of names l.name) l.select

-- ---- expressions and statements

abbrev pub expr_node : List Bytes → RawExpr-F SvExpr → SvExprNode
expr_node names (e.Literal l) = roll-SvExprNode (node.Literal (literal_of l))
expr_node names (e.Left l) = roll-SvExprNode (node.Left (left_of names l))
expr_node names (e.Unary o a) = roll-SvExprNode (node.Unary o a)
expr_node names (e.Binary o a b) = roll-SvExprNode (node.Binary o a b)
expr_node names (e.Cond c a b) = roll-SvExprNode (node.Cond c a b)
expr_node names (e.Concat parts) = roll-SvExprNode (node.Concat parts)
expr_node names (e.Cast w a) = roll-SvExprNode (node.Cast (small_number w) a)
expr_node names (e.Sign signed a) = roll-SvExprNode (node.Sign signed a)

abbrev pub expr_of : List Bytes → RawExpr → SvExpr
expr_of names = fold-RawExpr SvExpr (λ x. record { node = expr_node names x })

abbrev pub stmt_node : List Bytes → RawStmt-F SvStmt SvArm → SvStmt
stmt_node names (s.Assign l x) = roll-SvStmt (stmt.Assign (left_of names l) (expr_of names x))
stmt_node names (s.If c then_part else_part) = roll-SvStmt (stmt.If (expr_of names c) then_part else_part)
stmt_node names (s.Case x arms) = roll-SvStmt (stmt.Case (expr_of names x) arms)

abbrev pub arm_node : RawArm-F SvStmt SvArm → SvArm
arm_node a = roll-SvArm (record { label = literal_of a.label; body = a.body })

abbrev pub stmt_of : List Bytes → RawStmt → SvStmt
stmt_of names = fold-RawStmt SvStmt SvArm (stmt_node names) arm_node

abbrev pub arm_of : List Bytes → RawArm → SvArm
arm_of names = fold-RawArm SvStmt SvArm (stmt_node names) arm_node

-- ---- blocks

abbrev pub set_of : List Bytes → RawSet → SvSet
set_of names u = record { target = var_of names u.target; value = expr_of names u.value }

abbrev pub load_of : List Bytes → RawLoad → SvLoad
load_of names l = record { target = var_of names l.target; value = word_of (word_number l.value.digits) }

abbrev pub reset_of : List Bytes → RawReset → SvReset
reset_of names r = record { signal = var_of names r.signal; rising = r.rising; values = map (load_of names) r.values }

-- procedures (IEEE 1800-2017, 9.2.2)
abbrev pub block_of : List Bytes → RawBlock → SvBlock
block_of names (Comb ss) = block.Comb (map (stmt_of names) ss)
block_of names (Edge rising clock reset sets) = block.Edge rising (var_of names clock) (option_map (reset_of names) reset) (map (set_of names) sets)

-- ---- the module

-- One bit has no range; else the width is one more than the number of the highest bit (IEEE 1800-2017, 6.9.1).
abbrev pub width_of : Option Bytes → ℕ
width_of None = 1
width_of (Some high) = min (small_number high + 1) (2 ^ 32 - 1)

abbrev pub variable_of : RawVar → SvVar
variable_of v = record { name = v.name; width = width_of v.high; dir = v.dir }

abbrev pub declared : List RawItem → List RawVar
declared [] = []
declared (Var v ∷ more) = v ∷ declared more
declared (Block b ∷ more) = declared more

abbrev pub blocks_in : List RawItem → List RawBlock
blocks_in [] = []
blocks_in (Var v ∷ more) = blocks_in more
blocks_in (Block b ∷ more) = b ∷ blocks_in more

-- the variables, first the ports
abbrev pub variables_of : RawModule → List RawVar
variables_of m = m.ports ++ declared m.items

abbrev pub named : List RawVar → List Bytes
named vs = map (λ v. v.name) vs

abbrev pub names_in : RawModule → List Bytes
names_in m = with_names (with_names [] (named m.ports)) (named (declared m.items))

-- the module that is written so
abbrev pub module_of : RawModule → SvModule
module_of m = record { name = m.name; vars = map variable_of (variables_of m); blocks = map (block_of (names_in m)) (blocks_in m.items) }
