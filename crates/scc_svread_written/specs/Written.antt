-- A module as it is written: names in place of variables, and digits in place of numbers.
use Rattle.std.specs.Prelude.{ℕ, ◌+◌, ◌-◌, ◌/◌, nat_le, not, List, [], ◌∷◌, ◌++◌, map, decimal, slice_get, unwrap_or, option_map, Option, Some, None, if◌then◌else◌}
use Rattle.scc_svtree.specs.declared.expr.SvExpr.{SvExpr, fold-SvExpr}
use Rattle.scc_svtree.specs.declared.expr.SvExprNode.TheOpen.{SvExprNode-F}
use Rattle.scc_svtree.specs.declared.expr.SvExprNode.TheOpen as node
use Rattle.scc_svtree.specs.declared.expr.SvLeft.{SvLeft}
use Rattle.scc_svtree.specs.declared.expr.SvLeft.TheVariants.{Whole, Bit, Range}
use Rattle.scc_svtree.specs.declared.stmt.SvStmt.{SvStmt, fold-SvStmt}
use Rattle.scc_svtree.specs.declared.stmt.SvStmt.TheOpen.{SvStmt-F, SvArm-F}
use Rattle.scc_svtree.specs.declared.stmt.SvStmt.TheOpen as stmt
use Rattle.scc_svtree.specs.declared.module.SvModule.{SvModule}
use Rattle.scc_svtree.specs.declared.module.SvVar.{SvVar}
use Rattle.scc_svtree.specs.declared.module.SvBlock.{SvBlock}
use Rattle.scc_svtree.specs.declared.module.SvBlock.TheVariants.{Comb, Edge}
use Rattle.scc_svtree.specs.declared.module.SvSet.{SvSet}
use Rattle.scc_svtree.specs.declared.module.SvReset.{SvReset}
use Rattle.scc_svtree.specs.declared.module.SvLoad.{SvLoad}
use Rattle.scc_svtree.specs.Variables.{width_at}
use Rattle.scc_svtext.specs.Pieces.{hex_text}
use Rattle.scc_svtext.specs.ModuleText.{is_port}
use Rattle.scc_svread_grammar.specs.declared.raw.RawLiteral.{RawLiteral}
use Rattle.scc_svread_grammar.specs.declared.raw.RawSelect.TheVariants as select
use Rattle.scc_svread_grammar.specs.declared.raw.RawLeft.{RawLeft}
use Rattle.scc_svread_grammar.specs.declared.raw.RawExpr.{RawExpr}
use Rattle.scc_svread_grammar.specs.declared.raw.RawExpr.TheVariants as e
use Rattle.scc_svread_grammar.specs.declared.raw.RawStmt.{RawStmt}
use Rattle.scc_svread_grammar.specs.declared.raw.RawStmt.TheVariants as s
use Rattle.scc_svread_grammar.specs.declared.raw.RawArm.{RawArm}
use Rattle.scc_svread_grammar.specs.declared.raw.RawSet.{RawSet}
use Rattle.scc_svread_grammar.specs.declared.raw.RawLoad.{RawLoad}
use Rattle.scc_svread_grammar.specs.declared.raw.RawReset.{RawReset}
use Rattle.scc_svread_grammar.specs.declared.raw.RawBlock.{RawBlock}
use Rattle.scc_svread_grammar.specs.declared.raw.RawBlock.TheVariants as block
use Rattle.scc_svread_grammar.specs.declared.raw.RawVar.{RawVar}
use Rattle.scc_svread_grammar.specs.declared.raw.RawItem.{RawItem}
use Rattle.scc_svread_grammar.specs.declared.raw.RawItem.TheVariants.{Var, Block}
use Rattle.scc_svread_grammar.specs.declared.raw.RawModule.{RawModule}
use Rattle.scc_svread_grammar.specs.Grammar.{arm}

-- ---- leaves

-- the name of a variable, by its number (IEEE 1800-2017, 5.6)
abbrev pub name_of : List SvVar → ℕ → List ℕ
name_of vars i = unwrap_or (option_map (λ v. v.name) (slice_get vars i)) []

-- a number in a width: the decimal digits of the width, and all digits of base 16 (IEEE 1800-2017, 5.7.1)
abbrev pub raw_literal : ℕ → ℕ → RawLiteral
raw_literal width value = record { width = decimal width; digits = hex_text ((width + 3) / 4) value }

-- a variable, one bit of it, or its bits h down to l (IEEE 1800-2017, 11.5.1)
abbrev pub raw_left : List SvVar → SvLeft → RawLeft
raw_left vars (Whole v) = record { name = name_of vars v.0; select = select.Whole }
raw_left vars (Bit v at) = record { name = name_of vars v.0; select = select.Bit (decimal at) }
raw_left vars (Range v h l) = record { name = name_of vars v.0; select = select.Range (decimal h) (decimal l) }

-- ---- expressions and statements

abbrev pub raw_node : List SvVar → SvExprNode-F RawExpr RawExpr → RawExpr
raw_node vars (node.Literal l) = e.Literal (raw_literal l.width l.value.bits)
raw_node vars (node.Left l) = e.Left (raw_left vars l)
raw_node vars (node.Unary o a) = e.Unary o a
raw_node vars (node.Binary o a b) = e.Binary o a b
raw_node vars (node.Cond c a b) = e.Cond c a b
raw_node vars (node.Concat parts) = e.Concat parts
raw_node vars (node.Cast w a) = e.Cast (decimal w) a
raw_node vars (node.Sign signed a) = e.Sign signed a

abbrev pub raw_expr : List SvVar → SvExpr → RawExpr
raw_expr vars = fold-SvExpr RawExpr RawExpr (raw_node vars) (λ x. x.node)

abbrev pub raw_stmt_node : List SvVar → SvStmt-F RawStmt RawArm → RawStmt
raw_stmt_node vars (stmt.Assign l x) = s.Assign (raw_left vars l) (raw_expr vars x)
raw_stmt_node vars (stmt.If c then_part else_part) = s.If (raw_expr vars c) then_part else_part
raw_stmt_node vars (stmt.Case x arms) = s.Case (raw_expr vars x) arms

abbrev pub raw_arm_node : SvArm-F RawStmt RawArm → RawArm
raw_arm_node a = arm (raw_literal a.label.width a.label.value.bits) a.body

abbrev pub raw_stmt : List SvVar → SvStmt → RawStmt
raw_stmt vars = fold-SvStmt RawStmt RawArm (raw_stmt_node vars) raw_arm_node

-- ---- blocks

abbrev pub raw_set : List SvVar → SvSet → RawSet
raw_set vars u = record { target = name_of vars u.target.0; value = raw_expr vars u.value }

-- a register is loaded with a number of its own width
abbrev pub raw_load : List SvVar → SvLoad → RawLoad
raw_load vars l = record { target = name_of vars l.target.0; value = raw_literal (width_at vars l.target.0) l.value.bits }

-- A reset stands while its signal has the level to which its edge leads (IEEE 1800-2017, 9.4.2).
abbrev pub raw_reset : List SvVar → SvReset → RawReset
raw_reset vars r = record { rising = r.rising; signal = name_of vars r.signal.0; negated = not r.rising; level = name_of vars r.signal.0; values = map (raw_load vars) r.values }

-- procedures (IEEE 1800-2017, 9.2.2)
abbrev pub raw_block : List SvVar → SvBlock → RawBlock
raw_block vars (Comb ss) = block.Comb (map (raw_stmt vars) ss)
raw_block vars (Edge rising clock reset sets) = block.Edge rising (name_of vars clock.0) (option_map (raw_reset vars) reset) (map (raw_set vars) sets)

-- ---- the module

-- the number of the highest bit (IEEE 1800-2017, 6.9.1); one bit is written without a range
abbrev pub raw_high : ℕ → Option (List ℕ)
raw_high width = if nat_le width 1 then None else Some (decimal (width - 1))

abbrev pub raw_var : SvVar → RawVar
raw_var v = record { name = v.name; dir = v.dir; high = raw_high v.width }

abbrev pub raw_ports : List SvVar → List RawVar
raw_ports [] = []
raw_ports (v ∷ vs) = if is_port v.dir then raw_var v ∷ raw_ports vs else raw_ports vs

abbrev pub raw_declarations : List SvVar → List RawItem
raw_declarations [] = []
raw_declarations (v ∷ vs) = if is_port v.dir then raw_declarations vs else Var (raw_var v) ∷ raw_declarations vs

abbrev pub raw_blocks : List SvVar → List SvBlock → List RawItem
raw_blocks vars blocks = map (λ b. Block (raw_block vars b)) blocks

-- the module as it is written: ports, declarations, and then blocks
abbrev pub raw_of : SvModule → RawModule
raw_of m = record { name = m.name; ports = raw_ports m.vars; items = raw_declarations m.vars ++ raw_blocks m.vars m.blocks }
