-- Assignments to cells and to elements under indices in variables. This project's own.
use Rattle.std.specs.Prelude.{◌≡◌, ℕ, ◌+◌, ◌*◌, ◌<◌, ◌^◌, nat_lt, if◌then◌else◌, suc, Bool, true, false, List, [], ◌∷◌, Option, Some}
use Rattle.scc_bits_kinds.specs.Bits.{replaced}
use Rattle.scc_bits_kinds.specs.Kinds.{width_of}
use Rattle.scc_svtree.specs.declared.expr.SvBinary.TheVariants as binary
use Rattle.scc_svtree.specs.declared.expr.SvUnary.TheVariants as unary
use Rattle.scc_svtree.specs.Term as emitted
use Rattle.scc_svtree.specs.Code as emitted_code
use Rattle.scc_svtree.specs.Sizes.{sized}
use Rattle.scc_svtree.specs.Running.{run}
use Rattle.scc_svtree.specs.Mentions.{assigns}
use Rattle.scc_core_spec.specs.Program.{is_root, is_held}
use Rattle.scc_core_spec.specs.Term.{Term, Left, Pick, OneBit, kind_of}
use Rattle.scc_core_spec.specs.Uses.{has_sort, width_at}
use Rattle.scc_blocks_spec.specs.Acting.{Acting, word_in, put_in, picked}
use Rattle.scc_blocks_spec.specs.Effect.{assigned}
use Rattle.scc_blocks_spec.specs.Shown.{Sight, Shows, View, Constant, Read, Driven, Delayed, Plain, Next}
use Rattle.scc_blocks_spec.specs.Lowered.{Fits}
use Rattle.scc_lower_spec.specs.Gives.{Gives}
use Rattle.scc_lower_spec.specs.Selected.{below_term}
use Rattle.scc_lower_spec.specs.Conversion.{widened}
use Rattle.scc_lower_laws.specs.Sequence.{whole}
use Rattle.scc_lower_laws.specs.Outcome.{Outcome, Known, Made}
use Rattle.scc_lower_laws.specs.Lowers.{temporary}
use Rattle.scc_lower_laws.specs.Elements.{Dimension, Slot, HoldsIndex, HoldIndices, cell_in, index_word, variable_of}

-- only variables below the temporaries from that one on are assigned
abbrev pub AssignsBelow : Sight → (to : ℕ) → emitted_code.Code → Type 0
AssignsBelow s to code = (v : ℕ) → assigns code v ≡ true → v < temporary s to

-- the variable to which a cell is written
abbrev pub written_variable : View → ℕ → ℕ
written_variable Next c = 2 * c + 1
written_variable Delayed c = 2 * c + 1
written_variable v c = 2 * c

-- a root is written as itself or as its next value, another cell too
abbrev pub IsWrittenBy : View → Bool → Type 0
IsWrittenBy (Constant w) root = ⊥
IsWrittenBy Read root = ⊥
IsWrittenBy Driven root = root ≡ true
IsWrittenBy Delayed root = root ≡ true
IsWrittenBy Plain root = root ≡ false
IsWrittenBy Next root = root ≡ false

pub record IsWritten (s : Sight) (width : ℕ → ℕ) (bits c : ℕ) : Type 0 where
  pub is_named : s.mine c ≡ true
  pub is_held : has_sort is_held s.cells c ≡ true
  pub is_written : IsWrittenBy (s.view c) (has_sort is_root s.cells c)
  pub is_wide : width_at s.cells c ≡ bits
  pub variable : width (written_variable (s.view c) c) ≡ bits

-- What is written where: the text has the word of the value, which is put into the cell.
pub record IsPut (s : Sight) (width : ℕ → ℕ) (k : Pick) (e : Term) (t : emitted.Term) (a : Acting) (x : ℕ → ℕ) (c : Option ℕ) (b : Acting) : Type 0 where
  pub word : ℕ
  pub fits : word < 2 ^ width_of (kind_of e)
  pub gives : Gives false (sized false width x t) (width_of (kind_of e)) word
  pub is : put_in s.cells a c k word ≡ Some b

-- a pick takes bits h down to l of so many
abbrev pub PicksBits : Sight → Pick → (bits h l : ℕ) → Type 0
PicksBits s k bits h l = (a : Acting) → (x : ℕ → ℕ) → (old w new : ℕ) → Fits s a → Shows s a x → picked s.cells a bits k old w ≡ Some new → new ≡ replaced h l old w

-- The code writes the element that variables name, whatever is to be written there; past an end it writes nothing.
pub record Puts (s : Sight) (width : ℕ → ℕ) (to : ℕ) (H : Acting → (ℕ → ℕ) → Option ℕ → Acting → Type 0) (vs : List Slot) (ds : List Dimension) (first : ℕ) (code : emitted_code.Code) : Type 0 where
  pub puts : (a b : Acting) (x : ℕ → ℕ) (is : List ℕ) → Fits s a → Shows s a x → HoldIndices width x vs is → H a x (cell_in first ds is) b → Fits s b × Shows s b (run width code x)
  pub framed : AssignsBelow s to code

-- a body for each element of a dimension
abbrev pub PutsEach : (s : Sight) → (width : ℕ → ℕ) → (to : ℕ) → (H : Acting → (ℕ → ℕ) → Option ℕ → Acting → Type 0) → List Slot → Dimension → List Dimension → (first low : ℕ) → List emitted_code.Code → Type 0
PutsEach s width to H vs d ds first low [] = Unit {0}
PutsEach s width to H vs d ds first low (c ∷ cs) = Puts s width to H vs ds (first + low * d.stride) c × PutsEach s width to H vs d ds first (suc low) cs

-- the arms of those bodies, their labels of so many bits
abbrev pub arms_from : (width low : ℕ) → List emitted_code.Code → emitted_code.Arms
arms_from width low [] = emitted_code.None
arms_from width low (c ∷ cs) = emitted_code.Arm width low c (arms_from width (suc low) cs)

abbrev pub case_code : Slot → List emitted_code.Code → emitted_code.Code
case_code v cs = emitted_code.Case (variable_of v.variable) (arms_from v.width 0 cs) emitted_code.End

-- The code does what an assignment does.
pub record Assigns (s : Sight) (width : ℕ → ℕ) (to : ℕ) (l : Left) (k : Pick) (e : Term) (code : emitted_code.Code) : Type 0 where
  pub does : (a b : Acting) (x : ℕ → ℕ) → Fits s a → Shows s a x → assigned s.cells a l k e ≡ Some b → Fits s b × Shows s b (run width code x)
  pub framed : AssignsBelow s to code

-- ---- a bit at an index that isn't known

-- the cell with that bit taken out and the new one put there; the value has the width of the cell
abbrev pub bit_text : (width : ℕ) → (variable index : ℕ) → emitted.Term → emitted.Term
bit_text width variable index value =
    emitted.Binary binary.Or
    (emitted.Binary binary.And (variable_of variable) (emitted.Unary unary.Not (emitted.Binary binary.Shl (emitted.Literal width 1) (variable_of index))))
    (emitted.Binary binary.Shl value (variable_of index))

-- nothing is written where the index is past the width
abbrev pub bit_code : (width : ℕ) → (variable : ℕ) → Slot → emitted.Term → emitted_code.Code
bit_code width variable v value = if nat_lt width (2 ^ v.width)
    then emitted_code.If (below_term v.width (variable_of v.variable) width) (emitted_code.Assign (whole variable) (bit_text width variable v.variable value) emitted_code.End) emitted_code.End emitted_code.End
    else emitted_code.Assign (whole variable) (bit_text width variable v.variable value) emitted_code.End

-- What is written where: the text has the bit, in the width of the cells, and the index stands in its variable.
pub record IsPutBit (s : Sight) (width : ℕ → ℕ) (bits : ℕ) (index : Term) (v : Slot) (t : emitted.Term) (a : Acting) (x : ℕ → ℕ) (c : Option ℕ) (b : Acting) : Type 0 where
  pub word : ℕ
  pub fits : word < 2
  pub gives : Gives false (sized false width x t) bits word
  pub number : ℕ
  pub is_number : word_in s.cells a index ≡ Some number
  pub number_fits : number < 2 ^ width_of (kind_of index)
  pub holds : HoldsIndex width x v (index_word (kind_of index) number)
  pub is : put_in s.cells a c (OneBit index) word ≡ Some b

-- the new bit in the width of the cells
abbrev pub bit_value : (width : ℕ) → Outcome → emitted.Term
bit_value width (Known n) = emitted.Literal width n.word
bit_value width (Made t) = widened width t
