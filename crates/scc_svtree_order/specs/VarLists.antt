-- The variables that expressions read and statements assign, behind those of a list.
use Rattle.std.specs.Prelude.{ℕ, List, [], ◌∷◌, ◌++◌, map}
use Rattle.scc_svtree.specs.declared.expr.SvExpr.{SvExpr, fold-SvExpr}
use Rattle.scc_svtree.specs.declared.expr.SvExprNode.TheOpen.{SvExprNode-F}
use Rattle.scc_svtree.specs.declared.expr.SvExprNode.TheOpen as node
use Rattle.scc_svtree.specs.declared.stmt.SvStmt.{SvStmt, fold-SvStmt}
use Rattle.scc_svtree.specs.declared.stmt.SvArm.{SvArm, fold-SvArm}
use Rattle.scc_svtree.specs.declared.stmt.SvStmt.TheOpen.{SvStmt-F, SvArm-F}
use Rattle.scc_svtree.specs.declared.stmt.SvStmt.TheOpen as stmt
use Rattle.scc_svtree.specs.Running.{var_of}

-- variables with further ones
abbrev pub Further : Type 0
Further = List ℕ → List ℕ

abbrev pub each : List Further → Further
each [] vs = vs
each (f ∷ fs) vs = each fs (f vs)

-- ---- expressions

abbrev pub read_node : SvExprNode-F Further Further → Further
read_node (node.Literal l) vs = vs
read_node (node.Left l) vs = vs ++ var_of l ∷ []
read_node (node.Unary op a) vs = a vs
read_node (node.Binary op a b) vs = b (a vs)
read_node (node.Cond c a b) vs = b (a (c vs))
read_node (node.Concat parts) vs = each parts vs
read_node (node.Cast w a) vs = a vs
read_node (node.Sign signed a) vs = a vs

abbrev pub read_by : SvExpr → Further
read_by = fold-SvExpr Further Further read_node (λ e. e.node)

-- ---- statements

abbrev pub arm_node : SvArm-F Further Further → Further
arm_node a = each a.body

abbrev pub stmt_node_read : SvStmt-F Further Further → Further
stmt_node_read (stmt.Assign l e) vs = read_by e vs
stmt_node_read (stmt.If c then_part else_part) vs = each else_part (each then_part (read_by c vs))
stmt_node_read (stmt.Case e arms) vs = each arms (read_by e vs)

abbrev pub read_in : SvStmt → Further
read_in = fold-SvStmt Further Further stmt_node_read arm_node

abbrev pub read_in_arm : SvArm → Further
read_in_arm = fold-SvArm Further Further stmt_node_read arm_node

abbrev pub stmt_node_assigned : SvStmt-F Further Further → Further
stmt_node_assigned (stmt.Assign l e) vs = vs ++ var_of l ∷ []
stmt_node_assigned (stmt.If c then_part else_part) vs = each else_part (each then_part vs)
stmt_node_assigned (stmt.Case e arms) vs = each arms vs

abbrev pub assigned_in : SvStmt → Further
assigned_in = fold-SvStmt Further Further stmt_node_assigned arm_node

abbrev pub assigned_in_arm : SvArm → Further
assigned_in_arm = fold-SvArm Further Further stmt_node_assigned arm_node

-- ---- blocks

-- what a block's statements read
abbrev pub all_read : List SvStmt → List ℕ
all_read ss = each (map read_in ss) []

-- what they assign
abbrev pub all_assigned : List SvStmt → List ℕ
all_assigned ss = each (map assigned_in ss) []
