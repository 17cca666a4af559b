-- The cells that a location without pointers may name: one, or some of an array under indices that aren't static. This project's own.
use Rattle.std.specs.Prelude.{ℕ, ◌+◌, ◌-◌, ◌*◌, ◌/◌, min, max, false, nat_eq, nat_lt, if◌then◌else◌, List, [], ◌∷◌, ◌++◌, map, Option, Some, None, option_map, option_and_then}
use denote.Ref.{Bor}
use Rattle.scc_bits.specs.Value.{Number}
use Rattle.scc_core.specs.declared.expr.CoreBase.{CoreBase, out-CoreBase}
use Rattle.scc_core.specs.declared.expr.CoreBase.TheOpen.{CoreBase-F}
use Rattle.scc_core.specs.declared.expr.CoreBase.TheOpen as tree
use Rattle.scc_core.specs.declared.expr.CoreExpr.{CoreExpr}
use Rattle.scc_core.specs.declared.expr.CoreExprNode.{CoreExprNode}
use Rattle.scc_core.specs.declared.expr.CoreLeft.{CoreLeft}
use Rattle.scc_core.specs.declared.expr.CorePart.{CorePart}
use Rattle.scc_core.specs.declared.expr.CorePick.{CorePick}
use Rattle.scc_core.specs.declared.named.Dim.{Dim}
use Rattle.scc_core.specs.declared.named.Named.{Named}
use Rattle.scc_core.specs.declared.places.NameStep.TheVariants as step
use Rattle.scc_core.specs.declared.places.Places.{Places}
use Rattle.scc_core.specs.declared.places.Spot.{Spot}
use Rattle.scc_core.specs.declared.program.CellName.{CellName}
use Rattle.scc_core.specs.declared.statics.Known.{Known}
use Rattle.scc_core.specs.Elements.{Part, Member, Element, found}
use Rattle.scc_core.specs.Known.{facts_in}
use Rattle.scc_core.specs.Names.{cell_at, leads, name_spot}
use Rattle.scc_core.specs.Numbers.{small}
use Rattle.scc_core.specs.Statics.{part_in}

-- a sum and a product that stay below 2^32
abbrev pub added : ℕ → ℕ → ℕ
added a b = min (a + b) 4294967295

abbrev pub scaled : ℕ → ℕ → ℕ
scaled a b = min (a * b) 4294967295

-- the first cell of an array and how many there are, where they stand one after the other
abbrev pub between : ℕ → Option ℕ → Option ℕ → Option (ℕ × ℕ)
between count (Some first) (Some last) = if nat_lt last first then None else if nat_eq (last - first + 1) count then Some (first, count) else None
between count first last = None

abbrev pub array_from : Places → List Part → (first last : Spot) → (count : ℕ) → Option (ℕ × ℕ)
array_from p [] first last count = between count (cell_at p first) (cell_at p last)
array_from p (Member n ∷ ps) first last count = None
array_from p (Element size i ∷ ps) first last count =
    if nat_lt (count * size) 4294967296 then
    option_and_then (λ f. if nat_eq size 0 then None else option_and_then (λ l. array_from p ps f l (count * size)) (leads p last (step.Index (size - 1)))) (leads p first (step.Index 0))
    else None

abbrev pub array_in : Option (Bor Places) → List Part → CellName → Option (ℕ × ℕ)
array_in None ps name = None
array_in (Some p) ps name = option_and_then (λ at. array_from p.now ps at at 1) (name_spot p.now name)

-- the cells of an array under some indices; a static index moves the first cell on, another one is a dimension
abbrev pub at_index : Option ℕ → ℕ → Option ℕ
at_index None size = None
at_index (Some i) size = if nat_lt i size then Some i else None

abbrev pub row_from : List Part → (base stride number : ℕ) → List Dim → Option Named
row_from [] base stride number dims = Some (record { base = base; dims = dims })
row_from (Member n ∷ ps) base stride number dims = None
row_from (Element size None ∷ ps) base stride number dims = row_from ps base (stride / max size 1) (added number 1) (dims ++ record { size = size; stride = stride / max size 1; part = number } ∷ [])
row_from (Element size (Some v) ∷ ps) base stride number dims = option_and_then (λ i. row_from ps (added base (scaled i (stride / max size 1))) (stride / max size 1) (added number 1) dims) (at_index (small v) size)

abbrev pub single : Option ℕ → Option Named
single o = option_map (λ n. record { base = n; dims = [] }) o

abbrev pub of_array : Option (ℕ × ℕ) → Option ℕ → List Part → Option Named
of_array None cell ps = single cell
of_array (Some a) cell ps = row_from ps a.0 a.1 0 []

abbrev pub alone : ℕ → List CorePart → Option Named
alone n [] = single (Some n)
alone n (p ∷ ps) = None

abbrev pub named_by : Known → List CorePart → CoreBase-F CoreBase CoreExprNode CorePart CorePick CoreExpr CoreLeft → Option Named
named_by known ps (tree.Cell n) = alone n ps
named_by known ps (tree.Prefix name) = of_array (array_in known.places (map (part_in (facts_in known)) ps) name) (found (facts_in known) false (map (part_in (facts_in known)) ps) name) (map (part_in (facts_in known)) ps)
named_by known ps _ = None

-- the cells that a location may name; None where it names none, as past the end of an array
unfoldable pub named_in : Known → CoreLeft → Option Named
named_in known l = named_by known l.parts (out-CoreBase l.base)
