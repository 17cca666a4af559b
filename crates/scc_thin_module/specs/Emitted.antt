-- The module of a design.
use Rattle.std.specs.Prelude.{ℕ, ◌+◌, List, [], ◌∷◌, ◌++◌, map, Option, Some, None, if◌then◌else◌, ◌==◌, slice_get, option_map, unwrap_or}
use Rattle.scc_thin.specs.declared.design.Bitwise.{Bitwise}
use Rattle.scc_thin.specs.declared.design.Bitwise.TheVariants as bitwise
use Rattle.scc_svtree.specs.declared.expr.SvExpr.{SvExpr}
use Rattle.scc_svtree.specs.declared.expr.SvExprNode.{SvExprNode, roll-SvExprNode}
use Rattle.scc_svtree.specs.declared.expr.SvExprNode.TheOpen as node
use Rattle.scc_svtree.specs.declared.expr.SvLeft.TheVariants.{Whole}
use Rattle.scc_svtree.specs.declared.expr.SvBinary.{SvBinary}
use Rattle.scc_svtree.specs.declared.expr.SvBinary.TheVariants as binary
use Rattle.scc_svtree.specs.declared.stmt.SvStmt.{SvStmt, roll-SvStmt}
use Rattle.scc_svtree.specs.declared.stmt.SvStmt.TheOpen as stmt
use Rattle.scc_svtree.specs.declared.module.SvModule.{SvModule}
use Rattle.scc_svtree.specs.declared.module.SvVar.{SvVar}
use Rattle.scc_svtree.specs.declared.module.Dir.TheVariants.{Input, Output}
use Rattle.scc_svtree.specs.declared.module.SvBlock.TheVariants.{Comb}
use Rattle.scc_thin.specs.declared.design.Design.{Design}
use Rattle.scc_thin.specs.declared.design.Port.{Port}
use Rattle.scc_thin.specs.declared.design.Put.{Put}
use Rattle.scc_thin.specs.declared.design.Second.{Second}

abbrev pub expr : SvExprNode → SvExpr
expr n = record { node = n }

abbrev pub variable : ℕ → SvExpr
variable i = expr (roll-SvExprNode (node.Left (Whole (record { 0 = i }))))

abbrev pub cast : ℕ → SvExpr → SvExpr
cast w e = expr (roll-SvExprNode (node.Cast w e))

abbrev pub zero_of : ℕ → SvExpr
zero_of w = expr (roll-SvExprNode (node.Literal (record { width = w; value = record { bits = 0 } })))

abbrev pub binary_of : Bitwise → SvBinary
binary_of bitwise.And = binary.And
binary_of bitwise.Or = binary.Or
binary_of bitwise.Xor = binary.Xor

abbrev pub both : Bitwise → SvExpr → SvExpr → SvExpr
both o a b = expr (roll-SvExprNode (node.Binary (binary_of o) a b))

-- an expression of a width, in another width
abbrev pub resized : ℕ → ℕ → SvExpr → SvExpr
resized from to e = if from == to then e else cast to e

abbrev pub width_of : List Port → ℕ → ℕ
width_of ports i = unwrap_or (option_map (λ p. p.width) (slice_get ports i)) 0

abbrev pub operand : List Port → ℕ → SvExpr
operand ports i = resized (width_of ports i) 64 (variable i)

abbrev pub value_of : List Port → ℕ → Option Second → SvExpr
value_of ports i None = variable i
value_of ports i (Some s) = both s.op (operand ports i) (operand ports s.port)

abbrev pub value_width : List Port → ℕ → Option Second → ℕ
value_width ports i None = width_of ports i
value_width ports i (Some s) = 64

abbrev pub assign : ℕ → SvExpr → SvStmt
assign i e = roll-SvStmt (stmt.Assign (Whole (record { 0 = i })) e)

abbrev pub put_stmt : List Port → Put → SvStmt
put_stmt ports p = assign p.target (resized (value_width ports p.first p.second) (width_of ports p.target) (value_of ports p.first p.second))

-- the outputs, from a number on, as 0
abbrev pub zeros_from : ℕ → List Port → List SvStmt
zeros_from i [] = []
zeros_from i (p ∷ ps) = if p.output then assign i (zero_of p.width) ∷ zeros_from (i + 1) ps else zeros_from (i + 1) ps

abbrev pub var_of : Port → SvVar
var_of p = record { name = p.name; width = p.width; dir = if p.output then Output else Input }

abbrev pub module_of : Design → SvModule
module_of d = record { name = d.top; vars = map var_of d.ports; blocks = Comb (zeros_from 0 d.ports ++ map (put_stmt d.ports) d.puts) ∷ [] }
