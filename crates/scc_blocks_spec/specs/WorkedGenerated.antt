-- A worked value: a module with the ports of a generated design, which gives its output at each edge what stands at d. This project's own.
use Rattle.std.specs.Prelude.{true, [], ◌∷◌, None, codes}
use Rattle.scc_svtree.specs.declared.expr.SvExpr.{SvExpr}
use Rattle.scc_svtree.specs.declared.expr.SvExprNode.{roll-SvExprNode}
use Rattle.scc_svtree.specs.declared.expr.SvExprNode.TheOpen as node
use Rattle.scc_svtree.specs.declared.expr.SvLeft.TheVariants.{Whole}
use Rattle.scc_svtree.specs.declared.module.SvModule.{SvModule}
use Rattle.scc_svtree.specs.declared.module.Dir.TheVariants.{Input, Output}
use Rattle.scc_svtree.specs.declared.module.SvBlock.TheVariants as block
use Rattle.scc_blocks_spec.specs.WorkedList.{var}

-- the variable d
abbrev pub given : SvExpr
given = record { node = roll-SvExprNode (node.Left (Whole (record { 0 = 2 }))) }

abbrev pub passing : SvModule
passing = record {
  name = codes "Gen";
  vars = var (codes "clk") 1 Input ∷ var (codes "rst") 1 Input ∷ var (codes "d") 16 Input ∷ var (codes "q") 16 Output ∷ [];
  blocks = block.Edge true (record { 0 = 0 }) None (record { target = record { 0 = 3 }; value = given } ∷ []) ∷ [];
}
