-- A module of the counting thread: its registers are the output q and the variable n. This project's own.
use Rattle.std.specs.Prelude.{ℕ, true, List, [], ◌∷◌, None, codes}
use Rattle.scc_svtree.specs.declared.expr.SvExpr.{SvExpr}
use Rattle.scc_svtree.specs.declared.module.SvModule.{SvModule}
use Rattle.scc_svtree.specs.declared.module.SvVar.{SvVar}
use Rattle.scc_svtree.specs.declared.module.Dir.{Dir}
use Rattle.scc_svtree.specs.declared.module.Dir.TheVariants.{Input, Output, Inner}
use Rattle.scc_svtree.specs.declared.module.SvBlock.TheVariants as block

abbrev pub var : List ℕ → ℕ → Dir → SvVar
var name w d = record { name = name; width = w; dir = d }

-- whatever the registers take
abbrev pub counting_module : SvExpr → SvExpr → SvModule
counting_module e f = record {
  name = codes "t";
  vars = var (codes "clk") 1 Input ∷ var (codes "rst") 1 Input ∷ var (codes "q") 8 Output ∷ var (codes "n") 8 Inner ∷ [];
  blocks = block.Edge true (record { 0 = 0 }) None (record { target = record { 0 = 2 }; value = e } ∷ record { target = record { 0 = 3 }; value = f } ∷ []) ∷ [];
}
