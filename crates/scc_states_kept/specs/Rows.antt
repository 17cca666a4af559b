-- The cells that a location may name, one after the other. This project's own.
use Rattle.std.specs.Prelude.{ℕ, zero, suc, List, [], ◌∷◌, ◌++◌, Option, Some, None}
use Rattle.scc_core.specs.declared.expr.CoreLeft.{CoreLeft}
use Rattle.scc_core.specs.declared.named.Dim.{Dim}
use Rattle.scc_core.specs.declared.named.Named.{Named}
use Rattle.scc_core.specs.declared.statics.Known.{Known}
use Rattle.scc_core.specs.Located.{added, named_in}

-- what stands at so many cells, each so far behind the one before
abbrev pub along : (ℕ → List ℕ) → (size stride cell : ℕ) → List ℕ
along f zero stride cell = []
along f (suc n) stride cell = f cell ++ along f n stride (added cell stride)

-- from a first cell on, over each index that isn't static
abbrev pub row_cells : List Dim → ℕ → List ℕ
row_cells [] cell = cell ∷ []
row_cells (d ∷ ds) cell = along (row_cells ds) d.size d.stride cell

abbrev pub cells_by : Option Named → List ℕ
cells_by None = []
cells_by (Some n) = row_cells n.dims n.base

unfoldable pub cells_in : Known → CoreLeft → List ℕ
cells_in known l = cells_by (named_in known l)
