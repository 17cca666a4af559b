-- What becomes of an expression of the core: a number where all of it is known, else text in the width of its kind. This project's own.
use Rattle.std.specs.Prelude.{◌≡◌, ℕ, nat_eq, not, Bool, true, false, if◌then◌else◌, Option, Some, option_map, option_and_then}
use Rattle.scc_bits_kinds.specs.declared.kind.Kind.{Kind}
use Rattle.scc_bits_kinds.specs.declared.kind.Kind.TheVariants as kind
use Rattle.scc_bits_kinds.specs.declared.op.Op.{Op}
use Rattle.scc_bits_kinds.specs.declared.op.Op.TheVariants as op
use Rattle.scc_bits_kinds.specs.Kinds.{width_of, is_signed, stored}
use Rattle.scc_bits.specs.Placed.{operands_of}
use Rattle.scc_bits.specs.Value.{Number, exactly}
use Rattle.scc_bits.specs.Values.{applied, kind_of}
use Rattle.scc_svtree.specs.Sizes.{sized}
use Rattle.scc_svtree.specs.Term.{Term, Literal, Unary, Cond}
use Rattle.scc_lower_spec.specs.Conversion.{converted_term}
use Rattle.scc_lower_spec.specs.Gives.{Gives}
use Rattle.scc_lower_spec.specs.Operating.{binary_of, is_shift, operated_term, unary_of}

pub data Outcome : Type 0 where
  Known : (number : Number) → Outcome
  Made : (text : Term) → Outcome

-- the text; a number as one literal
abbrev pub text_of : Outcome → Term
text_of (Known n) = Literal (width_of n.kind) n.word
text_of (Made t) = t

-- the text in another kind
abbrev pub text_in : Kind → Kind → Outcome → Term
text_in from to (Known n) = Literal (width_of to) (stored to (exactly n))
text_in from to (Made t) = converted_term from to t

-- an outcome has a word in a kind, where variables have these widths and words, and size casts are read in this way
abbrev pub HasWord : Bool → (ℕ → ℕ) → (ℕ → ℕ) → Kind → Outcome → ℕ → Type 0
HasWord wide width x k (Known n) v = (n.kind ≡ k) × (n.word ≡ v)
HasWord wide width x k (Made t) v = Gives false (sized wide width x t) (width_of k) v

-- ---- conversions; a number stays one

abbrev pub number : Kind → ℕ → Number
number k w = record { kind = k; word = w }

abbrev pub converted : Kind → Kind → Outcome → Outcome
converted from to (Known n) = Known (number to (stored to (exactly n)))
converted from to (Made t) = Made (converted_term from to t)

-- ---- operators; two numbers give one

abbrev pub answered : Op → Number → Number → Option Outcome
answered o a b = option_and_then (λ k. option_map (λ w. Known (number k w)) (applied o a.kind a.word b.kind b.word)) (kind_of o a.kind b.kind)

abbrev pub joined_text : Op → Bool → Term → Term → Option Term
joined_text o s t u = option_map (λ text. operated_term o s text t u) (binary_of o s)

-- the right operand: the amount of a shift stands as it is
abbrev pub right_text : Op → Kind → Kind → Outcome → Term
right_text o to k b = if is_shift o then text_of b else text_in k to b

abbrev pub between_text : Op → Kind → Outcome → Kind → Outcome → Option Term
between_text o j a k b = option_and_then (λ p. joined_text o (is_signed p.left) (text_in j p.left a) (right_text o p.right k b)) (operands_of o j k)

abbrev pub operated : Op → Kind → Outcome → Kind → Outcome → Option Outcome
operated o j (Known a) k (Known b) = answered o a b
operated o j a k b = option_map Made (between_text o j a k b)

abbrev pub is_plus : Op → Bool
is_plus op.Plus = true
is_plus _ = false

-- `+` has no text
abbrev pub alone_text : Op → Term → Option Term
alone_text o t = if is_plus o then Some t else option_map (λ text. Unary text t) (unary_of o)

abbrev pub operated_alone : Op → Kind → Outcome → Option Outcome
operated_alone o j (Known a) = answered o a a
operated_alone o j (Made t) = option_map Made (option_and_then (λ p. alone_text o (converted_term j p.left t)) (operands_of o j j))

-- ---- choices; one number, where all is known

abbrev pub choice_text : Kind → Outcome → Kind → Outcome → Kind → Outcome → Kind → Term
choice_text i t j a k b to = Cond (text_in i kind.Bool t) (text_in j to a) (text_in k to b)

abbrev pub chosen : Kind → Outcome → Kind → Outcome → Kind → Outcome → Kind → Outcome
chosen i (Known n) j (Known a) k (Known b) to = Known (number to (stored to (exactly (if not (nat_eq n.word 0) then a else b))))
chosen i t j a k b to = Made (choice_text i t j a k b to)
