-- Worked values: modules of the counting thread, its block at the edge of one clock or of another; the name of the n-th cell is the one byte n. This project's own.
use Rattle.std.specs.Prelude.{ℕ, true, List, [], ◌∷◌, None, codes}
use Rattle.scc_svtree.specs.declared.module.SvModule.{SvModule}
use Rattle.scc_svtree.specs.declared.module.Dir.TheVariants.{Input, Output}
use Rattle.scc_svtree.specs.declared.module.SvBlock.TheVariants as block
use Rattle.scc_blocks_spec.specs.WorkedList.{var}

abbrev pub by_number : ℕ → List ℕ
by_number n = n ∷ []

-- whatever the thread does: its blocks are empty
abbrev pub clocked_by : ℕ → SvModule
clocked_by clock = record {
  name = codes "t";
  vars = var (by_number 0) 1 Input ∷ var (by_number 1) 1 Input ∷ var (by_number 2) 8 Output ∷ [];
  blocks = block.Comb [] ∷ block.Edge true (record { 0 = clock }) None [] ∷ [];
}
