-- What is found of locations, and what becomes of their indices. This project's own.
use Rattle.std.specs.Prelude.{◌≡◌, ◌⊎◌, ℕ, ◌+◌, ◌*◌, ◌≤◌, ◌<◌, List, [], ◌∷◌, ◌++◌, map, length, Option, Some, None, slice_get}
use Rattle.scc_base.specs.declared.refusal.Place.{Place}
use Rattle.scc_bits_kinds.specs.declared.kind.Kind.{Kind}
use Rattle.scc_bits_kinds.specs.Kinds.{width_of}
use Rattle.scc_core.specs.declared.expr.CoreExpr.{CoreExpr}
use Rattle.scc_core.specs.declared.expr.CoreLeft.{CoreLeft}
use Rattle.scc_core.specs.declared.expr.CoreBase.{CoreBase}
use Rattle.scc_core.specs.declared.expr.CoreExprNode.{CoreExprNode, out-CoreExprNode}
use Rattle.scc_core.specs.declared.expr.CorePart.{CorePart, out-CorePart}
use Rattle.scc_core.specs.declared.expr.CorePick.{CorePick, out-CorePick}
use Rattle.scc_core.specs.declared.expr.CoreBase.TheOpen.{CorePick-F}
use Rattle.scc_core.specs.declared.expr.CoreBase.TheOpen as tree
use Rattle.scc_core.specs.declared.named.Dim.{Dim}
use Rattle.scc_core.specs.declared.named.Named.{Named}
use Rattle.scc_core.specs.Located.{named_in}
use Rattle.scc_core_spec.specs.Term.{Term, Bit, Range, kind_of}
use Rattle.scc_svtree.specs.Term as emitted
use Rattle.scc_svtree.specs.Code.{Code, Assign, End}
use Rattle.scc_blocks_spec.specs.Shown.{Sight}
use Rattle.scc_lower_laws.specs.Sequence.{then_code, whole}
use Rattle.scc_lower_laws.specs.Lowers.{Lowers, Makes}
use Rattle.scc_lower_laws.specs.Joins.{LowersAll}
use Rattle.scc_lower_spec.specs.Selected.{bit_term}
use Rattle.scc_lower_laws.specs.Outcome.{Outcome, Made, text_of}
use Rattle.scc_lower_laws.specs.Elements.{IsTaken, Indexes, Slot, variable_of}
use Rattle.scc_core_view.specs.Terms.{term_of}
use Rattle.scc_lower_tree_laws.specs.Choosing.{Opened, ReadsElement}
use Rattle.scc_lower_tree_laws.specs.Becoming.{Becomes}
use Rattle.scc_lower_tree_laws.specs.Sound.{IsSound, IsBits, IsPlaced, left_of, read_in}
use Rattle.scc_lower_tree_laws.specs.States.{State, Given, Leaves, Sees, Agrees, Seen}

-- ---- dimensions under indices that aren't static

pub record Chosen : Type 0 where
  pub index : CoreExpr
  pub size : ℕ
  pub stride : ℕ

-- the cells first + sum of index * stride
pub record Found : Type 0 where
  pub first : ℕ
  pub dims : List Chosen

pub record IsChosen (parts : List CorePart) (d : Dim) (c : Chosen) : Type 0 where
  pub part : CorePart
  pub size : ℕ
  pub stands : slice_get parts d.part ≡ Some part
  pub is_index : out-CorePart part ≡ tree.Index size c.index
  pub sizes : c.size ≡ d.size
  pub strides : c.stride ≡ d.stride

abbrev pub AreChosen : List CorePart → List Dim → List Chosen → Type 0
AreChosen parts [] [] = Unit {0}
AreChosen parts (d ∷ ds) (c ∷ cs) = IsChosen parts d c × AreChosen parts ds cs
AreChosen parts _ _ = ⊥

pub record IsFoundAt (g : Given) (l : CoreLeft) (f : Found) : Type 0 where
  pub named : Named
  pub is : named_in g.known l ≡ Some named
  pub first : f.first ≡ named.base
  pub dims : AreChosen l.parts named.dims f.dims

-- ---- indices

-- An outcome of so many bits stands in a variable: in that which it is, or in a new temporary; with so many cells.
pub data Keeping (n : ℕ) (o : Outcome) (bits : ℕ) (old : State) (v : Slot) (new : State) : Type 0 where
  stands : v.width ≡ bits → text_of o ≡ variable_of v.variable → new ≡ old → Keeping n o bits old v new
  made : v.width ≡ bits → v.variable ≡ 2 * n + 1 + length old.temporaries
      → new ≡ record { views = old.views; exit = old.exit; temporaries = old.temporaries ++ bits ∷ []; before = then_code old.before (Assign (whole v.variable) (text_of o) End) }
      → Keeping n o bits old v new

pub record Indexing (g : Given) (e : CoreExpr) (old : State) (v : Slot) (new : State) : Type 0 where
  pub leaves : Leaves old new
  pub indexes : (s : Sight) (width : ℕ → ℕ) → Sees g.cells old.views s width → Agrees s width new.temporaries → IsSound g s e
      → Indexes s width (length old.temporaries) (length new.temporaries) (term_of e) leaves.front v

abbrev pub AreSound : Given → Sight → List Chosen → Type 0
AreSound g s [] = Unit {0}
AreSound g s (c ∷ cs) = IsSound g s c.index × AreSound g s cs

abbrev pub SameSizes : List Chosen → List Opened → Type 0
SameSizes [] [] = Unit {0}
SameSizes (c ∷ cs) (o ∷ os) = (c.size ≡ o.size) × (c.stride ≡ o.stride) × SameSizes cs os
SameSizes _ _ = ⊥

abbrev pub IndexEach : Sight → (ℕ → ℕ) → (from to : ℕ) → List Chosen → Code → List Opened → Type 0
IndexEach s width from to [] front [] = Unit {0}
IndexEach s width from to (c ∷ cs) front (o ∷ os) = Indexes s width from to (term_of c.index) front o.slot × IndexEach s width from to cs front os
IndexEach s width from to _ front _ = ⊥

-- one front leaves each index in a variable
pub record Opens (s : Sight) (width : ℕ → ℕ) (from to : ℕ) (cs : List Chosen) (front : Code) (os : List Opened) : Type 0 where
  pub grows : from ≤ to
  pub makes : Makes s from to front
  pub all : IndexEach s width from to cs front os

pub record Opening (g : Given) (cs : List Chosen) (old : State) (os : List Opened) (new : State) : Type 0 where
  pub leaves : Leaves old new
  pub sizes : SameSizes cs os
  pub opens : (s : Sight) (width : ℕ → ℕ) → Sees g.cells old.views s width → Agrees s width new.temporaries → AreSound g s cs → Opens s width (length old.temporaries) (length new.temporaries) cs leaves.front os

-- ---- reads

-- the bits that a pick takes of a term
abbrev pub taken_by : Place → Kind → Term → CorePick-F CoreBase CoreExprNode CorePart CorePick CoreExpr CoreLeft → Term
taken_by p k e (tree.Bit j i) = Bit p e (term_of i)
taken_by p k e (tree.Range j h l) = Range p k e h l

abbrev pub taken_of : Place → Kind → Term → Option CorePick → Term
taken_of p k e None = e
taken_of p k e (Some q) = taken_by p k e (out-CorePick q)

-- what has to hold of a pick of a number of so many bits
abbrev pub IsPick : Given → Sight → ℕ → Kind → Kind → Option CorePick → Type 0
IsPick g s bits whole k None = k ≡ whole
IsPick g s bits whole k (Some q) = IsBits g s bits k (out-CorePick q) × ((j : Kind) (i : CoreExpr) → out-CorePick q ≡ tree.Bit j i → IsSound g s i)

-- What is read of a location, of bits of a term that reads it.
pub record Reading (g : Given) (l : CoreLeft) (q : Option CorePick) (k : Kind) (old : State) (t : emitted.Term) (new : State) : Type 0 where
  pub leaves : Leaves old new
  pub lowers : (s : Sight) (width : ℕ → ℕ) → Sees g.cells old.views s width → Agrees s width new.temporaries → (p : Place) (e : Term) → IsTaken s e (left_of l) → 1 ≤ width_of (kind_of e) → width_of (kind_of e) ≤ 128
      → IsPlaced s (width_of (kind_of e)) l (named_in g.known l) → ((i : CoreExpr) (n size : ℕ) (x : CorePart) → slice_get l.parts n ≡ Some x → out-CorePart x ≡ tree.Index size i → IsSound g s i) → IsPick g s (width_of (kind_of e)) (kind_of e) k q
      → Lowers s width (length old.temporaries) (length new.temporaries) (taken_of p k e q) leaves.front (Made t)

-- the bit of a known number of an element, whose highest bit is h; 0 past its end
abbrev pub IsKnownBit : Given → List Seen → Option ℕ → (h : ℕ) → List Opened → (first : ℕ) → emitted.Term → Type 0
IsKnownBit g views (Some i) h os first t = ((i ≤ h) × ReadsElement g views os first i i t) ⊎ ((h < i) × (t ≡ emitted.Literal 1 0))
IsKnownBit g views None h os first t = t ≡ emitted.Literal 1 0

-- the bit of a text under an index that stands in a variable
pub record BitAt (g : Given) (t : emitted.Term) (i : CoreExpr) (old : State) (r : emitted.Term) (new : State) : Type 0 where
  pub index : Slot
  pub indexing : Indexing g i old index new
  pub is : r ≡ bit_term t (variable_of index.variable)

-- ---- bits of values, and parts of concatenations

abbrev pub location_of : CoreExpr → Option CoreLeft
location_of e = read_in (out-CoreExprNode e.node)

pub record PickingValue (g : Given) (e : CoreExpr) (q : CorePick) (old : State) (t : emitted.Term) (new : State) : Type 0 where
  pub of : Kind
  pub index : CoreExpr
  pub is_bit : out-CorePick q ≡ tree.Bit of index
  pub outcome : Outcome
  pub between : State
  pub first : Becomes g e old outcome between
  pub second : BitAt g (text_of outcome) index between t new

abbrev pub PickingBy : Given → Option CoreLeft → CoreExpr → CorePick → Kind → State → emitted.Term → State → Type 0
PickingBy g (Some l) e q k old t new = Reading g l (Some q) k old t new
PickingBy g None e q k old t new = PickingValue g e q old t new

abbrev pub Picking : Given → CoreExpr → CorePick → Kind → State → emitted.Term → State → Type 0
Picking g e q k old t new = PickingBy g (location_of e) e q k old t new

abbrev pub AreSoundAll : Given → Sight → List CoreExpr → Type 0
AreSoundAll g s [] = Unit {0}
AreSoundAll g s (e ∷ es) = IsSound g s e × AreSoundAll g s es

-- one front serves all parts
pub record Parts (s : Sight) (width : ℕ → ℕ) (from to : ℕ) (es : List CoreExpr) (front : Code) (os : List Outcome) : Type 0 where
  pub grows : from ≤ to
  pub makes : Makes s from to front
  pub all : LowersAll s width from to (map term_of es) front os

pub record LoweringAll (g : Given) (es : List CoreExpr) (old : State) (os : List Outcome) (new : State) : Type 0 where
  pub leaves : Leaves old new
  pub parts : (s : Sight) (width : ℕ → ℕ) → Sees g.cells old.views s width → Agrees s width new.temporaries → AreSoundAll g s es → Parts s width (length old.temporaries) (length new.temporaries) es leaves.front os
