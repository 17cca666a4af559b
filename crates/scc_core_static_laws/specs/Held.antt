-- What is known of cells: by a table of their names or by the names alone, and with numbers of counters. This project's own.
use Rattle.std.specs.Prelude.{◌≡◌, ℕ, ◌^◌, ◌≤◌, List, [], ◌∷◌, length, slice_get, Option, Some, None}
use denote.Ref.{Bor}
use Rattle.scc_bits_kinds.specs.Kinds.{IsValid, Fits}
use Rattle.scc_core.specs.declared.copy.Counter.{Counter}
use Rattle.scc_core.specs.declared.places.Places.{Places}
use Rattle.scc_core.specs.declared.program.Cell.{Cell}
use Rattle.scc_core.specs.declared.program.VectorSize2.{VectorSize2}
use Rattle.scc_core.specs.declared.statics.Known.{Known}
use Rattle.scc_core.specs.Counters.{number_of}
use Rattle.scc_core.specs.Known.{counted, first_number}
use Rattle.scc_core.specs.Elements.{Facts, fixed}
use Rattle.scc_core.specs.Names.{sought}
use Rattle.scc_core.specs.Tables.{IsTable}

-- of some vectors besides
pub record HasTable (p : Places) (cells : List Cell) : Type 0 where
  pub vectors : List VectorSize2
  pub table : IsTable p cells vectors

-- What is known is of these cells, of which there are at most 2^32: a table, where there is one, is theirs, and the numbers of counters are these.
pub record Knows (known : Known) (cells : List Cell) (ns : List Counter) : Type 0 where
  pub cells_are : known.cells.now ≡ cells
  pub count : length cells ≤ 2 ^ 32
  pub places : (p : Bor Places) → known.places ≡ Some p → HasTable p.now cells
  pub counters : (n : ℕ) → counted known.counters n ≡ number_of ns n

-- a counter has a number of its cell's kind
pub record IsCounter (cells : List Cell) (c : Counter) : Type 0 where
  pub cell : Cell
  pub there : slice_get cells c.cell ≡ Some cell
  pub kind : c.now.kind ≡ cell.kind
  pub is_valid : IsValid c.now.kind
  pub fits : Fits c.now.kind c.now.word

abbrev pub AreCounters : List Cell → List Counter → Type 0
AreCounters cells [] = Unit {0}
AreCounters cells (c ∷ ns) = IsCounter cells c × AreCounters cells ns

-- what is known by names alone, with the numbers of counters
abbrev pub facts_with : List Cell → List Counter → Facts
facts_with cells ns = record { held = λ n. first_number (number_of ns n) (fixed cells n); fixed_at = fixed cells; place = λ ss name. sought ss name cells }
