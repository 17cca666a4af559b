-- Arrays of cells by the names of their cells, in which one number stands in place of each index from an open one on. This project's own.
use Rattle.std.specs.Prelude.{ℕ, Bool, true, false, not, ◌&&◌, ◌||◌, nat_lt, nat_le, List, [], ◌∷◌, map, slice_get, Option, Some, None, option_map, option_and_then}
use Rattle.std.specs.Option.{unwrap_or}
use Rattle.scc_core.specs.declared.expr.CoreBase.{CoreBase}
use Rattle.scc_core.specs.declared.expr.CoreBase.TheOpen.{CorePart-F}
use Rattle.scc_core.specs.declared.expr.CoreBase.TheOpen as tree
use Rattle.scc_core.specs.declared.expr.CoreExpr.{CoreExpr}
use Rattle.scc_core.specs.declared.expr.CoreExprNode.{CoreExprNode}
use Rattle.scc_core.specs.declared.expr.CoreLeft.{CoreLeft}
use Rattle.scc_core.specs.declared.expr.CorePart.{CorePart, out-CorePart}
use Rattle.scc_core.specs.declared.expr.CorePick.{CorePick}
use Rattle.scc_core.specs.declared.places.NameStep.{NameStep}
use Rattle.scc_core.specs.declared.places.NameStep.TheVariants as step
use Rattle.scc_core.specs.declared.places.Spot.{Spot}
use Rattle.scc_core.specs.declared.program.Cell.{Cell}
use Rattle.scc_core.specs.declared.program.CellName.{CellName}
use Rattle.scc_core.specs.Names.{cell_at, leads, name_spot}
use Rattle.scc_core.specs.Tables.{steps_of, top}
use Rattle.scc_core_spec.specs.Fold.{static_index}
use Rattle.scc_core_spec.specs.Static.{Cells}
use Rattle.scc_core_view.specs.Programs.{cell_of}
use Rattle.scc_core_view.specs.Terms.{term_of}
use Rattle.scc_core_whole.specs.Parts.{is_past}
use Rattle.scc_core_look.specs.declared.rows.Row.{Row}
use Rattle.scc_core_look.specs.declared.rows.Rows.{Rows}
use Rattle.scc_core_look.specs.declared.seen.Seen.{Seen}
use Rattle.scc_core_look.specs.declared.seen.Test.{Test}
use Rattle.scc_core_look.specs.Seen.{asked, rooted_input, same_seen, seen_of, writes}

-- ---- steps and parts

abbrev pub any : ℕ
any = 4294967295

abbrev pub is_index : NameStep → Bool
is_index (step.Index i) = true
is_index (step.Member n) = false
is_index (step.Local n) = false

abbrev pub no_index : List NameStep → Bool
no_index [] = true
no_index (s ∷ ss) = not (is_index s) && no_index ss

abbrev pub keyed : NameStep → NameStep
keyed (step.Index i) = step.Index any
keyed (step.Member n) = step.Member n
keyed (step.Local n) = step.Local n

abbrev pub PartLayer : Type 0
PartLayer = CorePart-F CoreBase CoreExprNode CorePart CorePick CoreExpr CoreLeft

abbrev pub key_of : PartLayer → NameStep
key_of (tree.Member n) = step.Member n
key_of (tree.Index size at) = step.Index any

abbrev pub key_part : CorePart → NameStep
key_part p = key_of (out-CorePart p)

-- the size that an index tells
abbrev pub size_of : PartLayer → Option ℕ
size_of (tree.Member n) = None
size_of (tree.Index size at) = Some size

abbrev pub size_at : CorePart → Option ℕ
size_at p = size_of (out-CorePart p)

-- each index is below the bound of its place
abbrev pub within : List ℕ → List NameStep → Bool
within bs [] = true
within bs (step.Member n ∷ ss) = within bs ss
within bs (step.Local n ∷ ss) = within bs ss
within [] (step.Index i ∷ ss) = false
within (b ∷ bs) (step.Index i ∷ ss) = nat_lt i b && within bs ss

-- each size is no less than the bound of its place
abbrev pub sized : List ℕ → List (Option ℕ) → Bool
sized bs [] = true
sized bs (None ∷ ps) = sized bs ps
sized [] (Some size ∷ ps) = false
sized (b ∷ bs) (Some size ∷ ps) = nat_le b size && sized bs ps

abbrev pub bounded : List ℕ → List CorePart → Bool
bounded bs ps = sized bs (map size_at ps)

-- the number of an index that is known
abbrev pub index_of : Cells → PartLayer → Option (Option ℕ)
index_of cs (tree.Member n) = None
index_of cs (tree.Index size at) = Some (static_index cs [] (term_of at))

abbrev pub index_at : Cells → CorePart → Option (Option ℕ)
index_at cs p = index_of cs (out-CorePart p)

-- an index that is known is no less than the bound of its place, so no cell of the array is meant
abbrev pub one_past : List ℕ → List (Option (Option ℕ)) → Bool
one_past bs [] = false
one_past bs (None ∷ is) = one_past bs is
one_past [] (Some i ∷ is) = false
one_past (b ∷ bs) (Some i ∷ is) = is_past b i || one_past bs is

abbrev pub goes_past : Cells → List ℕ → List CorePart → Bool
goes_past cs bs ps = one_past bs (map (index_at cs) ps)

-- ---- an array, and a cell of it

abbrev pub covers : Row → List NameStep → Seen → Bool → Bool
covers r ss x input = (r.mixed || same_seen r.seen x) && ((not input || r.input) && within r.bounds ss)

abbrev pub row_passes : Cells → Row → List CorePart → Test → Bool
row_passes cs r ps t = not r.mixed && (asked t r.seen && ((not (writes t) || not r.input) && (bounded r.bounds ps || goes_past cs r.bounds ps)))

-- ---- arrays by names

abbrev pub row_at : Rows → Spot → Option Row
row_at t at = option_and_then (λ n. slice_get t.rows n) (cell_at t.names at)

abbrev pub row_from : Rows → Spot → List NameStep → Option Row
row_from t at [] = row_at t at
row_from t at (s ∷ ss) = option_and_then (λ to. row_from t to ss) (leads t.names at s)

abbrev pub row_of : Rows → CellName → List CorePart → Option Row
row_of t name ps = option_and_then (λ at. row_from t at (map key_part ps)) (name_spot t.names name)

abbrev pub passing : Cells → List CorePart → Test → Option Row → Bool
passing cs ps t None = true
passing cs ps t (Some r) = row_passes cs r ps t

abbrev pub passes : Cells → Rows → CellName → List CorePart → Test → Bool
passes cs rows name ps t = passing cs ps t (row_of rows name ps)

abbrev pub covering : List NameStep → Seen → Bool → Option Row → Bool
covering ss x input None = false
covering ss x input (Some r) = covers r ss x input

abbrev pub row_covers : Rows → Spot → List NameStep → Seen → Bool → Bool
row_covers t at ss x input = covering ss x input (row_from t at (map keyed ss))

-- from each index of a name on, its cell is one of an array
abbrev pub covered : Rows → Spot → List NameStep → Seen → Bool → Bool
covered t at [] x input = true
covered t at (s ∷ ss) x input = (not (is_index s) || row_covers t at (s ∷ ss) x input) && unwrap_or (option_map (λ to. covered t to ss x input) (leads t.names at s)) (no_index ss)

abbrev pub cell_covered : Rows → List Cell → Cell → Bool
cell_covered t cells c = covered t top (steps_of c.name) (seen_of (cell_of c)) (rooted_input (map cell_of cells) (cell_of c))
