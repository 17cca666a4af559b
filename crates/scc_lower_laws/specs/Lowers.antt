-- What it means that an expression is lowered behind others: its code in front makes temporaries from one number on, and its text reads no later ones. This project's own.
use Rattle.std.specs.Prelude.{◌≡◌, ℕ, ◌+◌, ◌*◌, ◌<◌, ◌≤◌, ◌^◌, true, false, length, Some}
use Rattle.scc_bits_kinds.specs.Kinds.{width_of}
use Rattle.scc_svtree.specs.Term as emitted
use Rattle.scc_svtree.specs.Code as emitted_code
use Rattle.scc_svtree.specs.Running.{run}
use Rattle.scc_svtree.specs.Mentions.{assigns, reads}
use Rattle.scc_core_spec.specs.Term.{Term, kind_of}
use Rattle.scc_blocks_spec.specs.Acting.{Acting, word_in}
use Rattle.scc_blocks_spec.specs.Shown.{Sight, Shows}
use Rattle.scc_blocks_spec.specs.Lowered.{Fits}
use Rattle.scc_lower_laws.specs.Outcome.{Outcome, HasWord, text_of}

-- the number of a temporary
abbrev pub temporary : Sight → ℕ → ℕ
temporary s t = 2 * length s.cells + 1 + t

-- only temporaries from the one on to the other are assigned
abbrev pub Makes : Sight → (from to : ℕ) → emitted_code.Code → Type 0
Makes s from to code = (v : ℕ) → assigns code v ≡ true → (temporary s from ≤ v) × (v < temporary s to)

-- no temporary from that one on is read
abbrev pub ReadsBelow : Sight → ℕ → emitted.Term → Type 0
ReadsBelow s to t = (v : ℕ) → reads t v ≡ true → v < temporary s to

-- what is named are cells
abbrev pub IsNumbered : Sight → Type 0
IsNumbered s = (c : ℕ) → s.mine c ≡ true → c < length s.cells

-- Behind what makes the temporaries before, the code in front makes further ones, and then the outcome has the word of the value, which fits its kind.
pub record Lowers (s : Sight) (width : ℕ → ℕ) (from to : ℕ) (e : Term) (front : emitted_code.Code) (o : Outcome) : Type 0 where
  pub grows : from ≤ to
  pub makes : Makes s from to front
  pub below : ReadsBelow s to (text_of o)
  pub fits : (a : Acting) (x : ℕ → ℕ) (w : ℕ) → Fits s a → Shows s a x → word_in s.cells a e ≡ Some w → w < 2 ^ width_of (kind_of e)
  pub gives : (a : Acting) (x : ℕ → ℕ) (w : ℕ) → Fits s a → Shows s a x → word_in s.cells a e ≡ Some w → HasWord false width (run width front x) (kind_of e) o w

-- whatever a valuation shows, the expression has that word, if it has one
pub record Knows (s : Sight) (e : Term) (word : ℕ) : Type 0 where
  pub fits : word < 2 ^ width_of (kind_of e)
  pub is : (a : Acting) (x : ℕ → ℕ) (w : ℕ) → Fits s a → Shows s a x → word_in s.cells a e ≡ Some w → w ≡ word
