-- What becomes of assignments: cells that are written, what is written to them, and the code that does it. This project's own.
use Rattle.std.specs.Prelude.{◌≡◌, ◌⊎◌, ℕ, suc, ◌-◌, ◌+◌, ◌*◌, ◌<◌, ◌≤◌, true, false, List, [], ◌∷◌, length, Option, Some, None, slice_get}
use Rattle.scc_bits_kinds.specs.Kinds.{width_of}
use Rattle.scc_core.specs.declared.expr.CoreBase.{CoreBase}
use Rattle.scc_core.specs.declared.expr.CoreBase.TheOpen.{CorePick-F}
use Rattle.scc_core.specs.declared.expr.CoreBase.TheOpen as tree
use Rattle.scc_core.specs.declared.expr.CoreExpr.{CoreExpr}
use Rattle.scc_core.specs.declared.expr.CoreExprNode.{CoreExprNode}
use Rattle.scc_core.specs.declared.expr.CoreLeft.{CoreLeft}
use Rattle.scc_core.specs.declared.expr.CorePart.{CorePart, out-CorePart}
use Rattle.scc_core.specs.declared.expr.CorePick.{CorePick, out-CorePick}
use Rattle.scc_core.specs.declared.named.Named.{Named}
use Rattle.scc_core.specs.Located.{named_in}
use Rattle.scc_core_spec.specs.Program.{is_root, is_held}
use Rattle.scc_core_spec.specs.Term.{Term, Pick, Whole, OneBit, Bits, kind_of}
use Rattle.scc_core_spec.specs.Uses.{has_sort, width_at}
use Rattle.scc_core_view.specs.Terms.{term_of, taken_of}
use Rattle.scc_svtree.specs.Code.{Code}
use Rattle.scc_svtree.specs.Term as emitted
use Rattle.scc_blocks_spec.specs.Acting.{Acting}
use Rattle.scc_blocks_spec.specs.Shown.{Sight}
use Rattle.scc_lower_laws.specs.Elements.{Dimension, IsFound, IsIndexKind, IsNowhere, Slot, cell_in}
use Rattle.scc_lower_laws.specs.Puts.{Assigns, IsPut, IsPutBit, IsWrittenBy, PicksBits, Puts}
use Rattle.scc_lower_laws.specs.Sequence.{then_code}
use Rattle.scc_lower_tree_laws.specs.Choosing.{AreBelow, AreOpen, Opened, slots_of}
use Rattle.scc_lower_tree_laws.specs.Sound.{AreDimensions, IsSound, left_of}
use Rattle.scc_lower_tree_laws.specs.States.{Agrees, Constant, Delayed, Given, Leaves, Next, Plain, Seen, Sees, State}

-- ---- cells that are written

pub record IsWriteCell (s : Sight) (bits c : ℕ) : Type 0 where
  pub is_named : s.mine c ≡ true
  pub is_held : has_sort is_held s.cells c ≡ true
  pub is_written : IsWrittenBy (s.view c) (has_sort is_root s.cells c)
  pub is_wide : width_at s.cells c ≡ bits

-- all elements are written by the process, and have so many bits
abbrev pub AreWritten : Sight → (bits first : ℕ) → List Dimension → Type 0
AreWritten s bits first ds = (is : List ℕ) (c : ℕ) → cell_in first ds is ≡ Some c → IsWriteCell s bits c

abbrev pub AreNoRoots : Sight → (first : ℕ) → List Dimension → Type 0
AreNoRoots s first ds = (is : List ℕ) (c : ℕ) → cell_in first ds is ≡ Some c → has_sort is_root s.cells c ≡ false

-- What is found of a location is what it names: cells of so many bits, which are written; by bits only where none is a root.
pub record IsTarget (s : Sight) (bits : ℕ) (l : CoreLeft) (n : Named) : Type 0 where
  pub dimensions : List Dimension
  pub are : AreDimensions l.parts n.dims dimensions
  pub found : IsFound s (left_of l) n.base dimensions
  pub first : width_at s.cells n.base ≡ bits
  pub cells : AreWritten s bits n.base dimensions
  pub parts : (l.pick ≡ None) ⊎ AreNoRoots s n.base dimensions

abbrev pub IsTargeted : Sight → ℕ → CoreLeft → Option Named → Type 0
IsTargeted s bits l None = IsNowhere s (left_of l)
IsTargeted s bits l (Some n) = IsTarget s bits l n

-- ---- what is written

-- bits h down to l take the value of an expression, whose text stands there; or the bit at an index that stands in a variable takes it, and the text has the width of the cells
pub data Wanted : Type 0 where
  Part : (h l : ℕ) (pick : Pick) (value : Term) (text : emitted.Term) → Wanted
  At : (index : Term) (slot : Slot) (text : emitted.Term) → Wanted

abbrev pub IsMeant : Sight → (ℕ → ℕ) → (bits : ℕ) → Wanted → Acting → (ℕ → ℕ) → Option ℕ → Acting → Type 0
IsMeant s width bits (Part h l k e t) = λ a x c b. IsPut s width k e t a x c b
IsMeant s width bits (At i u t) = λ a x c b. IsPutBit s width bits i u t a x c b

abbrev pub IsAllowed : Sight → (bits first : ℕ) → List Dimension → Wanted → Type 0
IsAllowed s bits first ds (Part h l k e t) = (l ≤ h) × (h < bits) × (width_of (kind_of e) ≡ h - l + 1) × (((k ≡ Whole) × (h + 1 ≡ bits) × (l ≡ 0)) ⊎ (AreNoRoots s first ds × PicksBits s k bits h l))
IsAllowed s bits first ds (At i u t) = AreNoRoots s first ds × (bits ≤ 128) × IsIndexKind (kind_of i)

-- the variable to which a cell is written
abbrev pub written_by : Seen → ℕ → Option ℕ
written_by (Constant w) c = None
written_by Plain c = Some (c * 2 + 0)
written_by Next c = Some (c * 2 + 1)
written_by Delayed c = Some (c * 2 + 1)

abbrev pub IsDelayed : Seen → Type 0
IsDelayed (Constant w) = ⊥
IsDelayed Plain = ⊥
IsDelayed Next = ⊥
IsDelayed Delayed = Unit {0}

-- the code writes so the element that variables name
abbrev pub PutsElement : Given → List Seen → List Opened → (first : ℕ) → Wanted → Code → Type 0
PutsElement g views os first z code = (s : Sight) (width : ℕ → ℕ) (m bits : ℕ) (ds : List Dimension) → Sees g.cells views s width → AreOpen ds os → AreWritten s bits first ds → IsAllowed s bits first ds z
    → Puts s width m (IsMeant s width bits z) (slots_of os) ds first code

-- a body for each element of a dimension
abbrev pub PutsElements : Given → List Seen → Opened → List Opened → (first low : ℕ) → Wanted → List Code → Type 0
PutsElements g views o os first low z [] = Unit {0}
PutsElements g views o os first low z (c ∷ cs) = PutsElement g views os (first + low * o.stride) z c × PutsElements g views o os first (suc low) z cs

-- ---- assignments

-- what has to hold of the bits that an assignment writes
abbrev pub IsPutBits : Given → Sight → (bits : ℕ) → Term → CorePick-F CoreBase CoreExprNode CorePart CorePick CoreExpr CoreLeft → Type 0
IsPutBits g s bits e (tree.Bit j i) = (width_of (kind_of e) ≡ 1) × IsIndexKind (kind_of (term_of i)) × IsSound g s i
IsPutBits g s bits e (tree.Range j h l) = (width_of (kind_of e) ≡ h - l + 1) × (l ≤ h) × (h < bits)

abbrev pub IsPutPick : Given → Sight → (bits : ℕ) → Term → Option CorePick → Type 0
IsPutPick g s bits e None = width_of (kind_of e) ≡ bits
IsPutPick g s bits e (Some q) = IsPutBits g s bits e (out-CorePick q)

-- an assignment that can be lowered
pub record IsRightPut (g : Given) (s : Sight) (l : CoreLeft) (e : CoreExpr) : Type 0 where
  pub bits : ℕ
  pub some : 1 ≤ bits
  pub few : bits ≤ 128
  pub value : IsSound g s e
  pub indices : (i : CoreExpr) (n size : ℕ) (x : CorePart) → slice_get l.parts n ≡ Some x → out-CorePart x ≡ tree.Index size i → IsSound g s i
  pub placed : IsTargeted s bits l (named_in g.known l)
  pub picked : IsPutPick g s bits (term_of e) l.pick

-- which bits of its cells an assignment writes
abbrev pub Takes : Given → CoreLeft → CoreExpr → List Seen → (h l : ℕ) → Type 0
Takes g left e views h l = (s : Sight) (width : ℕ → ℕ) → Sees g.cells views s width → (r : IsRightPut g s left e) → (l ≤ h) × (h < r.bits) × (width_of (kind_of (term_of e)) ≡ h - l + 1)
    × (((left.pick ≡ None) × (h + 1 ≡ r.bits) × (l ≡ 0)) ⊎ ((left.pick ≡ None → ⊥) × PicksBits s (taken_of left).pick r.bits h l))

pub record Assigning (g : Given) (l : CoreLeft) (e : CoreExpr) (old : State) (code : Code) (new : State) : Type 0 where
  pub leaves : Leaves old new
  pub assigns : (s : Sight) (width : ℕ → ℕ) → Sees g.cells old.views s width → Agrees s width new.temporaries → IsRightPut g s l e
      → Assigns s width (length new.temporaries) (taken_of l).left (taken_of l).pick (term_of e) (then_code leaves.front code)
