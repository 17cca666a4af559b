-- Arrays under indices that aren't known, each index in a variable, and the text that reads an element. This project's own.
use Rattle.std.specs.Prelude.{◌≡◌, ℕ, ◌+◌, ◌-◌, ◌*◌, ◌<◌, ◌≤◌, ◌^◌, nat_lt, true, false, if◌then◌else◌, List, [], ◌∷◌, Option, Some, None, option_map}
use Rattle.scc_bits_kinds.specs.declared.kind.Kind.{Kind}
use Rattle.scc_bits_kinds.specs.declared.kind.Kind.TheVariants as kind
use Rattle.scc_bits_kinds.specs.Kinds.{width_of, is_signed, number_of, stored}
use Rattle.scc_bits_kinds.specs.Bits.{part}
use Rattle.scc_svtree.specs.declared.expr.SvLeft.TheVariants.{Whole}
use Rattle.scc_svtree.specs.Term as emitted
use Rattle.scc_svtree.specs.Code as emitted_code
use Rattle.scc_svtree.specs.Sizes.{sized}
use Rattle.scc_svtree.specs.Running.{run}
use Rattle.scc_semantics.specs.Scene.{index_of}
use Rattle.scc_core_spec.specs.Term.{Term, Left, kind_of}
use Rattle.scc_core_spec.specs.Static.{Cells}
use Rattle.scc_core_spec.specs.Named.{Step}
use Rattle.scc_core_spec.specs.Program.{is_held}
use Rattle.scc_core_spec.specs.Uses.{has_sort, width_at}
use Rattle.scc_blocks_spec.specs.Acting.{Acting, word_in, steps_in, cell_named, word_or_zero}
use Rattle.scc_blocks_spec.specs.Shown.{Sight, Shows, View, Constant, Driven, Next}
use Rattle.scc_blocks_spec.specs.Lowered.{Fits}
use Rattle.scc_lower_spec.specs.Gives.{Gives}
use Rattle.scc_lower_spec.specs.Selected.{part_left, below_term}
use Rattle.scc_lower_laws.specs.Lowers.{temporary, Makes, ReadsBelow}

-- a dimension of an array: its index, its size, and how many cells lie between neighbours
pub record Dimension : Type 0 where
  pub index : Term
  pub size : ℕ
  pub stride : ℕ

-- the cell of an element, by one number for each dimension; None past an end
abbrev pub cell_in : (first : ℕ) → List Dimension → List ℕ → Option ℕ
cell_in first [] is = Some first
cell_in first (d ∷ ds) [] = None
cell_in first (d ∷ ds) (i ∷ is) = if nat_lt i d.size then cell_in (first + i * d.stride) ds is else None

-- what the indices are
abbrev pub AreIndices : Cells → Acting → List Dimension → List ℕ → Type 0
AreIndices cs a [] [] = Unit {0}
AreIndices cs a (d ∷ ds) (i ∷ is) = ((w : ℕ) × (word_in cs a d.index ≡ Some w) × (index_of (kind_of d.index) w ≡ i)) × AreIndices cs a ds is
AreIndices cs a _ _ = ⊥

-- a location names the elements of an array that begins with a cell; without dimensions that cell
abbrev pub IsFound : Sight → Left → (first : ℕ) → List Dimension → Type 0
IsFound s l first ds = (a : Acting) → (x : ℕ → ℕ) → Fits s a → Shows s a x → (c : Option ℕ) → (steps : List Step) → steps_in s.cells a l ≡ Some steps → cell_named s.cells (Some steps) ≡ c
    → (is : List ℕ) × AreIndices s.cells a ds is × (c ≡ cell_in first ds is)

-- a location names no cell
abbrev pub IsNowhere : Sight → Left → Type 0
IsNowhere s l = (a : Acting) → (x : ℕ → ℕ) → Fits s a → Shows s a x → (steps : List Step) → steps_in s.cells a l ≡ Some steps → cell_named s.cells (Some steps) ≡ None

-- ---- indices in variables

-- a variable, and its width
pub record Slot : Type 0 where
  pub variable : ℕ
  pub width : ℕ

abbrev pub variable_of : ℕ → emitted.Term
variable_of v = emitted.Part (Whole (record { 0 = v }))

-- an index is read without sign; a signed one is converted to 64 bits, where a negative one is past every end
abbrev pub index_kind : Kind → Kind
index_kind k = if is_signed k then kind.Native 64 false else k

abbrev pub index_word : Kind → ℕ → ℕ
index_word k w = stored (index_kind k) (number_of k w)

abbrev pub HoldsIndex : (ℕ → ℕ) → (ℕ → ℕ) → Slot → ℕ → Type 0
HoldsIndex width x v i = Gives false (sized false width x (variable_of v.variable)) v.width i

abbrev pub HoldIndices : (ℕ → ℕ) → (ℕ → ℕ) → List Slot → List ℕ → Type 0
HoldIndices width x [] [] = Unit {0}
HoldIndices width x (v ∷ vs) (i ∷ is) = HoldsIndex width x v i × HoldIndices width x vs is
HoldIndices width x _ _ = ⊥

-- Behind what makes the temporaries before, the code in front leaves an index in a variable.
pub record Indexes (s : Sight) (width : ℕ → ℕ) (from to : ℕ) (e : Term) (front : emitted_code.Code) (v : Slot) : Type 0 where
  pub grows : from ≤ to
  pub makes : Makes s from to front
  pub below : v.variable < temporary s to
  pub fits : (a : Acting) (x : ℕ → ℕ) (w : ℕ) → Fits s a → Shows s a x → word_in s.cells a e ≡ Some w → w < 2 ^ width_of (kind_of e)
  pub holds : (a : Acting) (x : ℕ → ℕ) (w : ℕ) → Fits s a → Shows s a x → word_in s.cells a e ≡ Some w → HoldsIndex width (run width front x) v (index_word (kind_of e) w)

-- An index's kind has at most 128 bits; with a sign at most 64.
pub record IsIndexKind (k : Kind) : Type 0 where
  pub some : 1 ≤ width_of k
  pub few : width_of k ≤ 128
  pub fewer : is_signed k ≡ true → width_of k ≤ 64

-- one front leaves each index of an array in a variable
abbrev pub IndexAll : Sight → (ℕ → ℕ) → (from to : ℕ) → List Dimension → emitted_code.Code → List Slot → Type 0
IndexAll s width from to [] front [] = Unit {0}
IndexAll s width from to (d ∷ ds) front (v ∷ vs) = Indexes s width from to d.index front v × (d.size ≤ 2 ^ 32) × IsIndexKind (kind_of d.index) × IndexAll s width from to ds front vs
IndexAll s width from to _ front _ = ⊥

-- ---- the text that reads an element

-- the variable from which a cell is read
abbrev pub read_variable : View → ℕ → ℕ
read_variable Next c = 2 * c + 1
read_variable v c = 2 * c

-- bits h down to l of a cell of so many
abbrev pub read_text : View → (width c h l : ℕ) → emitted.Term
read_text (Constant w) width c h l = emitted.Literal (h - l + 1) (part h l w)
read_text v width c h l = emitted.Part (part_left (record { 0 = read_variable v c }) width h l)

-- what is written and never read isn't
abbrev pub IsRead : View → Type 0
IsRead Driven = ⊥
IsRead v = Unit {0}

pub record IsReadable (s : Sight) (width : ℕ → ℕ) (bits c : ℕ) : Type 0 where
  pub is_named : s.mine c ≡ true
  pub is_held : has_sort is_held s.cells c ≡ true
  pub is_read : IsRead (s.view c)
  pub is_wide : width_at s.cells c ≡ bits
  pub variable : width (read_variable (s.view c) c) ≡ bits

-- so many bits without sign, whatever the words are
abbrev pub HasShape : (ℕ → ℕ) → emitted.Term → ℕ → Type 0
HasShape width t n = (x : ℕ → ℕ) → ((sized false width x t).len ≡ n) × ((sized false width x t).signed ≡ false)

-- The text gives bits h down to l of the element that variables name, of an array whose cells have so many bits; 0 past an end.
pub record ShowsElement (s : Sight) (width : ℕ → ℕ) (to bits : ℕ) (vs : List Slot) (ds : List Dimension) (first h l : ℕ) (t : emitted.Term) : Type 0 where
  pub below : ReadsBelow s to t
  pub shape : HasShape width t (h - l + 1)
  pub gives : (a : Acting) (x : ℕ → ℕ) (is : List ℕ) → Fits s a → Shows s a x → HoldIndices width x vs is
      → (word_or_zero a (cell_in first ds is) < 2 ^ bits) × Gives false (sized false width x t) (h - l + 1) (part h l (word_or_zero a (cell_in first ds is)))

-- The same for the elements of the first dimension from one on to another.
pub record ShowsSpan (s : Sight) (width : ℕ → ℕ) (to bits : ℕ) (v : Slot) (vs : List Slot) (d : Dimension) (ds : List Dimension) (first low high h l : ℕ) (t : emitted.Term) : Type 0 where
  pub below : ReadsBelow s to t
  pub shape : HasShape width t (h - l + 1)
  pub gives : (a : Acting) (x : ℕ → ℕ) (i : ℕ) (is : List ℕ) → Fits s a → Shows s a x → HoldsIndex width x v i → HoldIndices width x vs is → low ≤ i → i < high
      → (word_or_zero a (cell_in (first + i * d.stride) ds is) < 2 ^ bits) × Gives false (sized false width x t) (h - l + 1) (part h l (word_or_zero a (cell_in (first + i * d.stride) ds is)))

-- all elements by halves, and 0 where the index can be past the end
abbrev pub within_text : Slot → (size h l : ℕ) → emitted.Term → emitted.Term
within_text v size h l t = if nat_lt size (2 ^ v.width) then emitted.Cond (below_term v.width (variable_of v.variable) size) t (emitted.Literal (h - l + 1) 0) else t

-- ---- what is read of a location

abbrev pub location_word : Cells → Acting → Left → Option ℕ
location_word cs a l = option_map (λ steps. word_or_zero a (cell_named cs (Some steps))) (steps_in cs a l)

-- an expression that reads a location: a load or a read
abbrev pub IsTaken : Sight → Term → Left → Type 0
IsTaken s e l = (a : Acting) → word_in s.cells a e ≡ location_word s.cells a l

-- One front leaves the indices of a location in variables, and the text gives bits h down to l of what it names, of so many.
pub record Shown (s : Sight) (width : ℕ → ℕ) (from to bits : ℕ) (place : Left) (front : emitted_code.Code) (h l : ℕ) (t : emitted.Term) : Type 0 where
  pub grows : from ≤ to
  pub makes : Makes s from to front
  pub first : ℕ
  pub dimensions : List Dimension
  pub slots : List Slot
  pub found : IsFound s place first dimensions
  pub indices : IndexAll s width from to dimensions front slots
  pub element : ShowsElement s width to bits slots dimensions first h l t

-- an index that is known
abbrev pub KnowsIndex : Sight → Term → (index : ℕ) → Type 0
KnowsIndex s e i = (a : Acting) → (x : ℕ → ℕ) → (w : ℕ) → Fits s a → Shows s a x → word_in s.cells a e ≡ Some w → index_of (kind_of e) w ≡ i
