-- Locations in arrays. This project's own.
use Rattle.std.specs.Prelude.{◌≡◌, ◌≤◌, ◌+◌, ◌++◌, ℕ, List, map, Some}
use denote.Ref.{Bor}
use Rattle.scc_core.specs.declared.expr.CoreBase.{out-CoreBase}
use Rattle.scc_core.specs.declared.expr.CoreBase.TheOpen as tree
use Rattle.scc_core.specs.declared.expr.CoreLeft.{CoreLeft}
use Rattle.scc_core.specs.declared.places.Places.{Places}
use Rattle.scc_core.specs.declared.program.CellName.{CellName}
use Rattle.scc_core.specs.declared.program.Core.{Core}
use Rattle.scc_core.specs.declared.statics.Known.{Known}
use Rattle.scc_core.specs.Known.{facts_in}
use Rattle.scc_core.specs.Statics.{part_in}
use Rattle.scc_core_spec.specs.Named.{Step, steps_of}
use Rattle.scc_core_spec.specs.Static.{pattern}
use Rattle.scc_core_view.specs.Programs.{cells_of}
use Rattle.scc_core_view.specs.Terms.{name_of, taken_of}
use Rattle.scc_core_view.specs.Whole.{IsName}
use Rattle.scc_states_named_laws.specs.Arrays.{AreIndices, StandsInRows, size_of}

-- A location of a name with indices behind it: a table tells of them what the definition does, and the cells behind the name stand one after the other from
-- a first on.
pub record IsInArray (known : Known) (c : Core) (l : CoreLeft) (first : ℕ) : Type 0 where
  pub places : Bor Places
  pub has : known.places ≡ Some places
  pub name : CellName
  pub base : out-CoreBase l.base ≡ tree.Prefix name
  pub named : IsName name
  pub behind : List Step
  pub sizes : List ℕ
  pub reads : pattern (cells_of c) (taken_of l).left ≡ Some (steps_of (name_of name) ++ behind)
  pub indices : AreIndices (map (part_in (facts_in known)) l.parts) behind sizes
  pub stands : StandsInRows (cells_of c) (steps_of (name_of name)) sizes first
  pub bound : first + size_of sizes ≤ 4294967295
