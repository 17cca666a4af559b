-- Expressions and statements of a process as those of emitted text (IEEE 1800-2017, 11.6 and 12.4): what it means that they are the same.
use Rattle.std.specs.Prelude.{◌≡◌, ℕ, ◌<◌, ◌^◌, true, false, Option, Some, None}
use Rattle.scc_bits_kinds.specs.Kinds.{width_of}
use Rattle.scc_svtree.specs.Term as emitted
use Rattle.scc_svtree.specs.Code as emitted_code
use Rattle.scc_svtree.specs.Sizes.{Sized, sized}
use Rattle.scc_svtree.specs.Running.{run}
use Rattle.scc_svtree.specs.Mentions.{assigns}
use Rattle.scc_core_spec.specs.Term.{Term, kind_of}
use Rattle.scc_core_spec.specs.Code.{Code}
use Rattle.scc_core_spec.specs.Program.{is_root, is_held}
use Rattle.scc_core_spec.specs.Uses.{has_sort, width_at}
use Rattle.scc_blocks_spec.specs.Acting.{Acting, word_in}
use Rattle.scc_blocks_spec.specs.Effect.{Fell, effect}
use Rattle.scc_blocks_spec.specs.Shown.{Sight, Shows, top_number}

-- An expression without sign that has so many bits, and this word.
pub record Gives (e : Sized) (width : ℕ) (word : Option ℕ) : Type 0 where
  pub length : e.len ≡ width
  pub unsigned : e.signed ≡ false
  pub value : Some (e.word width false) ≡ word

-- Words and requests fit their cells, and only roots are asked.
pub record Fits (s : Sight) (a : Acting) : Type 0 where
  pub words : (c : ℕ) → has_sort is_held s.cells c ≡ true → a.now c < 2 ^ width_at s.cells c
  pub asks : (c w : ℕ) → has_sort is_held s.cells c ≡ true → a.asked c ≡ Some w → w < 2 ^ width_at s.cells c
  pub roots : (c : ℕ) → has_sort is_root s.cells c ≡ false → a.asked c ≡ None

-- nothing is assigned but the variables of the lowering
abbrev pub IsFramed : emitted_code.Code → Type 0
IsFramed code = (v : ℕ) → assigns code v ≡ true → v < top_number

-- what statements leave of what fits, fits
abbrev pub KeepsFit : Sight → Code → Type 0
KeepsFit s c = (a b : Acting) → Fits s a → effect s.cells c a ≡ Fell b → Fits s b

-- On each valuation that shows a store that fits, the code leads to one that shows what the statements leave.
pub record IsLoweredCode (s : Sight) (width : ℕ → ℕ) (c : Code) (code : emitted_code.Code) : Type 0 where
  pub shows : (a b : Acting) (x : ℕ → ℕ) → Fits s a → Shows s a x → effect s.cells c a ≡ Fell b → Shows s b (run width code x)
  pub framed : IsFramed code

-- On each valuation that shows a store that fits, the code in front leaves it shown, and then the expression has the word of the value, in the width of its kind.
pub record IsLoweredTerm (s : Sight) (width : ℕ → ℕ) (e : Term) (front : emitted_code.Code) (t : emitted.Term) : Type 0 where
  pub shows : (a : Acting) (x : ℕ → ℕ) → Fits s a → Shows s a x → Shows s a (run width front x)
  pub gives : (a : Acting) (x : ℕ → ℕ) (w : ℕ) → Fits s a → Shows s a x → word_in s.cells a e ≡ Some w → Gives (sized false width (run width front x) t) (width_of (kind_of e)) (Some w)
  pub framed : IsFramed front
