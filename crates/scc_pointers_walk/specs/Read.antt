-- Indices for which the code finds what the definitions have. This project's own.
use Rattle.std.specs.Prelude.{◌≡◌, ℕ, ◌<◌, true, List, [], ◌∷◌, map, slice_get, Some, is_some}
use Rattle.scc_base.specs.declared.path.PathPart.{PathPart}
use Rattle.scc_base.specs.declared.path.PathPart.TheVariants as path_part
use Rattle.scc_core.specs.declared.expr.CoreBase.{CoreBase, out-CoreBase}
use Rattle.scc_core.specs.declared.expr.CoreBase.TheOpen.{CoreBase-F, CorePart-F}
use Rattle.scc_core.specs.declared.expr.CoreBase.TheOpen as tree
use Rattle.scc_core.specs.declared.expr.CoreExpr.{CoreExpr}
use Rattle.scc_core.specs.declared.expr.CoreExprNode.{CoreExprNode}
use Rattle.scc_core.specs.declared.expr.CoreLeft.{CoreLeft}
use Rattle.scc_core.specs.declared.expr.CorePart.{CorePart, out-CorePart}
use Rattle.scc_core.specs.declared.expr.CorePick.{CorePick}
use Rattle.scc_core.specs.declared.program.Cell.{Cell}
use Rattle.scc_core.specs.declared.program.CellName.{CellName}
use Rattle.scc_core.specs.declared.program.CellSort.TheVariants as sort
use Rattle.scc_core.specs.declared.program.VectorSize2.{VectorSize2}
use Rattle.scc_core.specs.Known.{facts_in}
use Rattle.scc_core.specs.Statics.{value_in}
use Rattle.scc_core_spec.specs.Fold.{static_index}
use Rattle.scc_core_static_laws.specs.Indices.{Finds}
use Rattle.scc_core_view.specs.Programs.{cell_of, vector_of}
use Rattle.scc_core_view.specs.Terms.{term_of}
use Rattle.scc_core_view.specs.Whole.{IsName}
use Rattle.scc_pointers_walk.specs.declared.held.Resolver.{Resolver}
use Rattle.scc_pointers_walk.specs.Located.{name_at}

abbrev pub IsFound : Resolver → CoreExpr → Type 0
IsFound r e = Finds (value_in (facts_in r.known) e) (static_index (map cell_of r.known.cells.now) (map vector_of r.vectors.now) (term_of e))

abbrev pub IsFoundPart : Resolver → CorePart-F CoreBase CoreExprNode CorePart CorePick CoreExpr CoreLeft → Type 0
IsFoundPart r (tree.Member n) = Unit {0}
IsFoundPart r (tree.Index size e) = IsFound r e

-- so of all indices of a location
abbrev pub AreFound : Resolver → List CorePart → Type 0
AreFound r [] = Unit {0}
AreFound r (x ∷ ps) = IsFoundPart r (out-CorePart x) × AreFound r ps

-- behind an object's name stand no indices
abbrev pub IsNamedBase : CoreBase-F CoreBase CoreExprNode CorePart CorePick CoreExpr CoreLeft → Type 0
IsNamedBase (tree.Prefix name) = IsName name
IsNamedBase _ = Unit {0}

abbrev pub IsNamed : CoreLeft → Type 0
IsNamed l = IsNamedBase (out-CoreBase l.base)

-- numbers of 32 bits in names
abbrev pub AreSmallParts : List PathPart → Type 0
AreSmallParts [] = Unit {0}
AreSmallParts (path_part.Member n ∷ ps) = AreSmallParts ps
AreSmallParts (path_part.Index i ∷ ps) = (i < 4294967296) × AreSmallParts ps

abbrev pub AreSmall : List ℕ → Type 0
AreSmall [] = Unit {0}
AreSmall (i ∷ is) = (i < 4294967296) × AreSmall is

abbrev pub HaveSmallNames : List Cell → Type 0
HaveSmallNames [] = Unit {0}
HaveSmallNames (c ∷ cs) = AreSmallParts c.name.path × AreSmall c.name.indices × HaveSmallNames cs

abbrev pub HaveSmallPaths : List VectorSize2 → Type 0
HaveSmallPaths [] = Unit {0}
HaveSmallPaths (v ∷ vs) = AreSmallParts v.path × HaveSmallPaths vs

-- the name with which a location begins has no indices behind an object's
abbrev pub HasName : Resolver → CoreLeft → Type 0
HasName r l = (front : CellName) → name_at r l.base ≡ Some front → IsName front

-- construction leaves no target in a local pointer
abbrev pub HaveNoTargets : List Cell → Type 0
HaveNoTargets cells = (n : ℕ) (c : Cell) (path : List PathPart) → slice_get cells n ≡ Some c → is_some c.name.local ≡ true → c.sort ≡ sort.Pointer (Some path) → ⊥
