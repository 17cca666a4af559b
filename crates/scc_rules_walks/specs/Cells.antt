-- The cells that a found location names, and sets of cells. This project's own.
use Rattle.std.specs.Prelude.{ℕ, ◌+◌, ◌*◌, Bool, false, List, [], ◌∷◌, map, flat_map, slice_get, unwrap_or}
use Rattle.std.specs.List.{range_with_len}
use Rattle.scc_core.specs.declared.named.Dim.{Dim}
use Rattle.scc_core.specs.declared.named.Named.{Named}

-- so many cells from one on
abbrev pub row : (size stride : ℕ) → ℕ → List ℕ
row size stride cell = map (λ i. cell + i * stride) (range_with_len 0 size)

abbrev pub stretched : (size stride : ℕ) → List ℕ → List ℕ
stretched size stride cells = flat_map (row size stride) cells

-- under open indices, the last one running fastest
abbrev pub spread : List ℕ → List Dim → List ℕ
spread cells [] = cells
spread cells (d ∷ ds) = spread (stretched d.size d.stride cells) ds

abbrev pub cells_in : Named → List ℕ
cells_in n = spread (n.base ∷ []) n.dims

-- each by its root, where there is one
abbrev pub root_at : List ℕ → ℕ → ℕ
root_at roots cell = unwrap_or (slice_get roots cell) cell

abbrev pub roots_in : List ℕ → Named → List ℕ
roots_in roots n = map (root_at roots) (cells_in n)

-- a set of cells by flags
abbrev pub has_flag : List Bool → ℕ → Bool
has_flag set n = unwrap_or (slice_get set n) false
