-- What an operator computes with in place of its operands: numbers of 128 bits in two's complement.
use Rattle.std.specs.Prelude.{◌≡◌, ℕ, ◌+◌, ◌<◌, ◌^◌, max, Bool, true, not, ◌&&◌, ◌||◌, if◌then◌else◌}
use Rattle.scc_bits.specs.declared.form.Form.{Form}
use Rattle.scc_bits_kinds.specs.declared.kind.Kind.{Kind}
use Rattle.scc_bits.specs.declared.number.Number.{Number}
use Rattle.scc_bits.specs.declared.operands.Operands.{Operands}
use Rattle.scc_bits_kinds.specs.declared.rule.Rule.{Rule}
use Rattle.scc_bits_kinds.specs.declared.rule.Rule.TheVariants as rule
use Rattle.scc_bits.specs.declared.taken.Taken.{Taken}
use Rattle.scc_bits_kinds.specs.Groups.{group_of, is_small}
use Rattle.scc_bits_kinds.specs.Numbers.{reading}
use Rattle.scc_bits_kinds.specs.Kinds.{width_of, is_signed, number_of, converted}
use Rattle.scc_bits_kinds.specs.Counts.{count_of}

-- the number of a kind's word
pub record Reads (k : Kind) (x : ℕ) (n : Number) : Type 0 where
  pub word : n.bits < 2 ^ 128
  pub value : reading (is_signed k) 128 n.bits ≡ number_of k x
  pub count : n.count ≡ count_of k
  pub sign : n.signed ≡ is_signed k

-- the bits that a number needs where it may stand beside a signed one, and those that hold two numbers, by counts and signs
abbrev pub padded_by : Bool → ℕ → Bool → ℕ
padded_by t c s = c + (if t && not s then 1 else 0)

abbrev pub room_by : ℕ → Bool → ℕ → Bool → ℕ
room_by c s d t = max (padded_by (s || t) c s) (padded_by (s || t) d t)

-- a rule of the common kind has small operands
abbrev pub Small : Rule → Kind → Kind → Type 0
Small rule.Common j k = (is_small (group_of j) ≡ true) × (is_small (group_of k) ≡ true)
Small rule.CommonTest j k = (is_small (group_of j) ≡ true) × (is_small (group_of k) ≡ true)
Small _ j k = Unit {0}

-- the rules whose operands don't meet in a small kind
abbrev pub IsOther : Rule → Type 0
IsOther rule.Common = ⊥
IsOther rule.CommonTest = ⊥
IsOther rule.Promoted = ⊥
IsOther rule.PromotedShift = ⊥
IsOther rule.Logical = ⊥
IsOther _ = Unit {0}

-- a kind without its group
abbrev pub form_of : Kind → Form
form_of k = record { width = width_of k; signed = is_signed k }

-- two operands as numbers of the kinds that they are converted to
pub record Stands (p : Operands) (j : Kind) (x : ℕ) (k : Kind) (y : ℕ) (t : Taken) : Type 0 where
  pub left : reading (is_signed p.left) 128 t.left ≡ converted p.left (number_of j x)
  pub right : reading (is_signed p.right) 128 t.right ≡ converted p.right (number_of k y)
  pub sign : t.signed ≡ is_signed p.left
  pub answer : t.answer ≡ width_of p.answer
