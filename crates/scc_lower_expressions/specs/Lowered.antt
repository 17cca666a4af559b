-- What became of an expression: a number, or text.
use Rattle.std.specs.Prelude.{◌≡◌, ℕ, Bool, false, Option, Some, None}
use Rattle.scc_bits_kinds.specs.declared.kind.Kind.{Kind}
use Rattle.scc_bits_kinds.specs.Kinds.{width_of, stored}
use Rattle.scc_bits.specs.Value.{Number, exactly}
use Rattle.scc_svtree.specs.Sizes.{sized}
use Rattle.scc_svtree.specs.Term.{Term, Literal, term_of}
use Rattle.scc_lower_spec.specs.Conversion.{converted_term}
use Rattle.scc_lower_spec.specs.Gives.{Gives}
use Rattle.scc_lower_expressions.specs.declared.convert.Lowered.{Lowered}
use Rattle.scc_lower_expressions.specs.declared.convert.Lowered.TheVariants.{Known, Made}

-- the text; a number as one literal
abbrev pub text_of : Lowered → Term
text_of (Known n) = Literal (width_of n.kind) n.word
text_of (Made e) = term_of e

-- the text in another kind
abbrev pub text_in : Kind → Kind → Lowered → Term
text_in from to (Known n) = Literal (width_of to) (stored to (exactly n))
text_in from to (Made e) = converted_term from to (term_of e)

-- a number that is another one in a kind
abbrev pub IsStored : Kind → Number → Lowered → Type 0
IsStored to n (Known m) = (m.kind ≡ to) × (m.word ≡ stored to (exactly n))
IsStored to n (Made e) = ⊥

abbrev pub IsText : Term → Lowered → Type 0
IsText t (Known n) = ⊥
IsText t (Made e) = term_of e ≡ t

-- the text of a conversion; a number stays one
abbrev pub Converts : Kind → Kind → Lowered → Lowered → Type 0
Converts from to (Known n) out = IsStored to n out
Converts from to (Made e) out = IsText (converted_term from to (term_of e)) out

-- What is lowered has a word in a kind: the number is that word, or the text gives it, where variables have these widths and
-- words, and size casts are read in this way.
abbrev pub HasWord : Bool → (ℕ → ℕ) → (ℕ → ℕ) → Kind → Lowered → ℕ → Type 0
HasWord wide width x k (Known n) v = (n.kind ≡ k) × (n.word ≡ v)
HasWord wide width x k (Made e) v = Gives false (sized wide width x (term_of e)) (width_of k) v

abbrev pub number_in : Lowered → Option Number
number_in (Known n) = Some n
number_in (Made e) = None
