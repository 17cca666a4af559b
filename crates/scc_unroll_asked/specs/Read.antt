-- The words that are found of expressions where counters stand as literals.
use Rattle.std.specs.Prelude.{◌≡◌, ℕ, List, [], ◌∷◌, map, slice_get, Option, Some, option_map}
use Rattle.scc_bits_kinds.specs.Kinds.{IsValid, Fits}
use Rattle.scc_core.specs.declared.copy.Counter.{Counter as Held}
use Rattle.scc_core.specs.declared.expr.CoreExpr.{CoreExpr}
use Rattle.scc_core.specs.declared.program.Cell.{Cell}
use Rattle.scc_core.specs.declared.statics.Known.{Known}
use Rattle.scc_core.specs.Counters.{counted}
use Rattle.scc_core.specs.Known.{facts_in}
use Rattle.scc_core.specs.Statics.{value_in}
use Rattle.scc_core_spec.specs.Static.{static}
use Rattle.scc_core_spec.specs.Counted.{counting}
use Rattle.scc_core_view.specs.Programs.{cell_of}
use Rattle.scc_core_view.specs.Terms.{term_of}
use Rattle.scc_unroll_laws.specs.Counters.{counters_of}

-- a counter has a number of its cell's kind
pub record IsCounter (cells : List Cell) (c : Held) : Type 0 where
  pub cell : Cell
  pub there : slice_get cells c.cell ≡ Some cell
  pub kind : c.now.kind ≡ cell.kind
  pub is_valid : IsValid c.now.kind
  pub fits : Fits c.now.kind c.now.word

abbrev pub AreCounters : List Cell → List Held → Type 0
AreCounters cells [] = Unit {0}
AreCounters cells (c ∷ ns) = IsCounter cells c × AreCounters cells ns

-- the word that the code finds for an expression where these counters stand as literals
abbrev pub read : Known → List Held → CoreExpr → Option ℕ
read known ns e = option_map (λ v. v.word) (value_in (facts_in known) (counted ns e))

-- it is the static value
abbrev pub IsRead : Known → CoreExpr → Type 0
IsRead known e = (ns : List Held) → AreCounters known.cells.now ns → read known ns e ≡ static (map cell_of known.cells.now) (counting (counters_of ns) (term_of e))
