-- What has to hold of an expression of a core so that it can be lowered: kinds are those of the rules, what is known is so, and locations name cells that the process
-- reads. This project's own.
use Rattle.std.specs.Prelude.{◌≡◌, ℕ, ◌-◌, ◌+◌, ◌<◌, ◌≤◌, ◌^◌, true, List, [], ◌∷◌, map, Option, Some, None, slice_get}
use Rattle.scc_bits_kinds.specs.declared.kind.Kind.{Kind}
use Rattle.scc_bits_kinds.specs.declared.kind.Kind.TheVariants as kind
use Rattle.scc_bits_kinds.specs.Kinds.{IsValid, width_of}
use Rattle.scc_bits.specs.Value.{Number}
use Rattle.scc_core.specs.declared.expr.CoreBase.{CoreBase}
use Rattle.scc_core.specs.declared.expr.CoreExpr.{CoreExpr}
use Rattle.scc_core.specs.declared.expr.CoreExprNode.{CoreExprNode, out-CoreExprNode}
use Rattle.scc_core.specs.declared.expr.CoreLeft.{CoreLeft}
use Rattle.scc_core.specs.declared.expr.CorePart.{CorePart, out-CorePart}
use Rattle.scc_core.specs.declared.expr.CorePick.{CorePick, out-CorePick}
use Rattle.scc_core.specs.declared.expr.CoreBase.TheOpen.{CoreExprNode-F, CorePick-F}
use Rattle.scc_core.specs.declared.expr.CoreBase.TheOpen as tree
use Rattle.scc_core.specs.declared.named.Dim.{Dim}
use Rattle.scc_core.specs.declared.named.Named.{Named}
use Rattle.scc_core.specs.Located.{named_in}
use Rattle.scc_core.specs.Known.{facts_in}
use Rattle.scc_core.specs.Statics.{value_in}
use Rattle.scc_core_spec.specs.Program.{is_held}
use Rattle.scc_core_spec.specs.Term.{Left, kind_of}
use Rattle.scc_core_spec.specs.Uses.{has_sort, width_at}
use Rattle.scc_core_view.specs.Terms as view
use Rattle.scc_core_view.specs.Terms.{term_of}
use Rattle.scc_core_view.specs.Whole.{Answers}
use Rattle.scc_blocks_spec.specs.Shown.{Sight}
use Rattle.scc_lower_laws.specs.Lowers.{Knows}
use Rattle.scc_lower_laws.specs.Joins.{widths}
use Rattle.scc_lower_laws.specs.Elements.{Dimension, IsFound, IsNowhere, IsIndexKind, IsRead, cell_in}
use Rattle.scc_lower_tree_laws.specs.States.{Given}

abbrev pub Layer : Type 0
Layer = CoreExprNode-F CoreBase CoreExprNode CorePart CorePick CoreExpr CoreLeft

-- where a location stands
abbrev pub left_of : CoreLeft → Left
left_of l = (view.taken_of l).left

-- the kind of the whole of which bits are taken
abbrev pub of_kind : CorePick-F CoreBase CoreExprNode CorePart CorePick CoreExpr CoreLeft → Kind
of_kind (tree.Bit j i) = j
of_kind (tree.Range j h l) = j

abbrev pub whole_in : Kind → Option CorePick → Kind
whole_in k None = k
whole_in k (Some q) = of_kind (out-CorePick q)

-- ---- what stands in an expression

abbrev pub read_in : Layer → Option CoreLeft
read_in (tree.Load l) = Some l
read_in (tree.Read l) = Some l
read_in _ = None

-- the indices of a location, and that of a bit
pub data Beneath (l : CoreLeft) : CoreExpr → Type 0 where
  index : (n size : ℕ) (p : CorePart) (i : CoreExpr) → slice_get l.parts n ≡ Some p → out-CorePart p ≡ tree.Index size i → Beneath l i
  bit : (q : CorePick) (j : Kind) (i : CoreExpr) → l.pick ≡ Some q → out-CorePick q ≡ tree.Bit j i → Beneath l i

pub data Under (e : CoreExpr) : CoreExpr → Type 0 where
  converted : (f : CoreExpr) → out-CoreExprNode e.node ≡ tree.Convert f → Under e f
  operand : (o : _) (f : CoreExpr) (g : Option CoreExpr) → out-CoreExprNode e.node ≡ tree.Operate o f g → Under e f
  second : (o : _) (f g : CoreExpr) → out-CoreExprNode e.node ≡ tree.Operate o f (Some g) → Under e g
  test : (f g h : CoreExpr) → out-CoreExprNode e.node ≡ tree.Choose f g h → Under e f
  yes : (f g h : CoreExpr) → out-CoreExprNode e.node ≡ tree.Choose f g h → Under e g
  no : (f g h : CoreExpr) → out-CoreExprNode e.node ≡ tree.Choose f g h → Under e h
  of : (f : CoreExpr) (q : CorePick) → out-CoreExprNode e.node ≡ tree.Pick f q → Under e f
  at : (f i : CoreExpr) (q : CorePick) (j : Kind) → out-CoreExprNode e.node ≡ tree.Pick f q → out-CorePick q ≡ tree.Bit j i → Under e i
  joined : (n : ℕ) (f : CoreExpr) (fs : List CoreExpr) → out-CoreExprNode e.node ≡ tree.Join fs → slice_get fs n ≡ Some f → Under e f
  within : (l : CoreLeft) (i : CoreExpr) → read_in (out-CoreExprNode e.node) ≡ Some l → Beneath l i → Under e i

pub data Within : CoreExpr → CoreExpr → Type 0 where
  itself : (e : CoreExpr) → Within e e
  deeper : (e f g : CoreExpr) → Under e f → Within f g → Within e g

-- ---- what has to hold

-- a dimension of an array is one of the parts of a location
pub record IsDimension (parts : List CorePart) (d : Dim) (e : Dimension) : Type 0 where
  pub part : CorePart
  pub size : ℕ
  pub index : CoreExpr
  pub stands : slice_get parts d.part ≡ Some part
  pub is_index : out-CorePart part ≡ tree.Index size index
  pub is : e ≡ record { index = term_of index; size = d.size; stride = d.stride }
  pub kind : IsIndexKind (kind_of (term_of index))
  pub few : d.size ≤ 2 ^ 32

abbrev pub AreDimensions : List CorePart → List Dim → List Dimension → Type 0
AreDimensions parts [] [] = Unit {0}
AreDimensions parts (d ∷ ds) (e ∷ es) = IsDimension parts d e × AreDimensions parts ds es
AreDimensions parts _ _ = ⊥

-- a cell that the process reads
pub record IsReadCell (s : Sight) (bits c : ℕ) : Type 0 where
  pub is_named : s.mine c ≡ true
  pub is_held : has_sort is_held s.cells c ≡ true
  pub is_read : IsRead (s.view c)
  pub is_wide : width_at s.cells c ≡ bits

-- What is found of a location is what it names: cells of so many bits.
pub record IsPlace (s : Sight) (bits : ℕ) (l : CoreLeft) (n : Named) : Type 0 where
  pub dimensions : List Dimension
  pub are : AreDimensions l.parts n.dims dimensions
  pub found : IsFound s (left_of l) n.base dimensions
  pub first : width_at s.cells n.base ≡ bits
  pub cells : (is : List ℕ) (c : ℕ) → cell_in n.base dimensions is ≡ Some c → IsReadCell s bits c

abbrev pub IsPlaced : Sight → ℕ → CoreLeft → Option Named → Type 0
IsPlaced s bits l None = IsNowhere s (left_of l)
IsPlaced s bits l (Some n) = IsPlace s bits l n

module _ (g : Given) (s : Sight) where
  abbrev pub IsBits : (bits : ℕ) → Kind → CorePick-F CoreBase CoreExprNode CorePart CorePick CoreExpr CoreLeft → Type 0
  IsBits bits k (tree.Bit j i) = (k ≡ kind.Bool) × IsIndexKind (kind_of (term_of i))
  IsBits bits k (tree.Range j h l) = (l ≤ h) × (h < bits) × (width_of k ≡ h - l + 1)

  abbrev pub IsTaken : (bits : ℕ) → (k : Kind) → Option CorePick → Type 0
  IsTaken bits k None = Unit {0}
  IsTaken bits k (Some q) = IsBits bits k (out-CorePick q)

  -- a location that is read, whole or in part
  pub record IsRight (k : Kind) (l : CoreLeft) : Type 0 where
    pub some : 1 ≤ width_of (whole_in k l.pick)
    pub few : width_of (whole_in k l.pick) ≤ 128
    pub taken : IsTaken (width_of (whole_in k l.pick)) k l.pick
    pub placed : IsPlaced s (width_of (whole_in k l.pick)) l (named_in g.known l)

  -- of what is read as a whole bits are taken
  abbrev pub IsWhole : Option CoreLeft → Type 0
  IsWhole None = Unit {0}
  IsWhole (Some l) = l.pick ≡ None

  abbrev pub AreJoined : Kind → List CoreExpr → Type 0
  AreJoined k [] = ⊥
  AreJoined k (e ∷ []) = (kind_of (term_of e) ≡ k) × (widths (term_of e ∷ []) ≡ width_of k)
  AreJoined k (e ∷ f ∷ fs) = widths (map term_of (e ∷ f ∷ fs)) ≡ width_of k

  abbrev pub IsNode : Kind → Layer → Type 0
  IsNode k (tree.Lit w) = w.bits < 2 ^ width_of k
  IsNode k (tree.Load l) = IsRight k l
  IsNode k (tree.Read l) = IsRight k l
  IsNode k (tree.Convert e) = Unit {0}
  IsNode k (tree.Operate o a None) = Answers o a.kind a.kind k
  IsNode k (tree.Operate o a (Some b)) = Answers o a.kind b.kind k
  IsNode k (tree.Choose t a b) = Unit {0}
  IsNode k (tree.Pick e q) = IsBits (width_of (kind_of (term_of e))) k (out-CorePick q) × IsWhole (read_in (out-CoreExprNode e.node))
  IsNode k (tree.Join es) = AreJoined k es

  pub record IsFine (e : CoreExpr) : Type 0 where
    pub kind : kind_of (term_of e) ≡ e.kind
    pub valid : IsValid e.kind
    pub node : IsNode e.kind (out-CoreExprNode e.node)
    -- what is said to be known of it is so
    pub value : (n : Number) → value_in (facts_in g.known) e ≡ Some n → (n.kind ≡ e.kind) × Knows s (term_of e) n.word

  -- an expression that can be lowered: all that stands in it is as it has to be
  abbrev pub IsSound : CoreExpr → Type 0
  IsSound e = (f : CoreExpr) → Within e f → IsFine f
