-- Numbers of static expressions, where they have one: each gives none exactly where the arithmetic has no value.
use Rattle.std.specs.Prelude.{ℕ, ◌+◌, ◌-◌, ◌/◌, ◌%◌, ◌^◌, ℤ, pos, negsuc, Bool, true, not, ◌&&◌, ◌||◌, nat_eq, nat_le, nat_lt, if◌then◌else◌, List, [], ◌∷◌, Option, Some, None, option_map, option_and_then, is_some}
use Rattle.scc_bits_kinds.specs.declared.kind.Kind.{Kind}
use Rattle.scc_bits_kinds.specs.declared.kind.Kind.TheVariants as kind
use Rattle.scc_bits_kinds.specs.declared.op.Op.{Op}
use Rattle.scc_bits_kinds.specs.declared.op.Op.TheVariants as op
use Rattle.scc_bits_kinds.specs.Kinds.{width_of, stored}
use Rattle.scc_bits_kinds.specs.Bits.{part, joined, range_of, concat_of}
use Rattle.scc_bits.specs.Value.{Number, exactly}
use Rattle.scc_bits.specs.Values.{is_too_wide, applied}

-- whether a kind is one that there is
abbrev pub is_valid : Kind → Bool
is_valid kind.Bool = true
is_valid (kind.Native w s) = nat_eq w 8 || (nat_eq w 16 || (nat_eq w 32 || nat_eq w 64))
is_valid (kind.Int w) = nat_le 1 w && nat_le w 64
is_valid (kind.Uint w) = nat_le 1 w && nat_le w 64
is_valid (kind.Big w) = nat_le 1 w && nat_le w 128
is_valid (kind.BigInt w) = nat_le 1 w && nat_le w 128
is_valid (kind.Bv w) = nat_le 1 w && nat_le w 128
is_valid (kind.Wide b s) = nat_le 1 b && nat_le b 255

-- the number of a word, where the kind is one and the word fits it
unfoldable pub valued : Kind → ℕ → Option Number
valued k x = if is_valid k && nat_lt x (2 ^ width_of k) then Some (record { kind = k; word = x }) else None

-- a number in another kind
unfoldable pub stored_in : Kind → Number → Option Number
stored_in k n = if is_valid k then Some (record { kind = k; word = stored k (exactly n) }) else None

-- whether an operator takes a word as its second operand: a divisor isn't 0
abbrev pub takes : Op → ℕ → Bool
takes op.Div y = not (nat_eq y 0)
takes op.Rem y = not (nat_eq y 0)
takes _ y = true

-- the word of an operator's answer
unfoldable pub answer : Op → Number → Number → Option ℕ
answer o a b = if not (is_too_wide o a.kind b.kind) && takes o b.word then applied o a.kind a.word b.kind b.word else None

-- bits h down to l
unfoldable pub selected : ℕ → ℕ → Number → Option ℕ
selected h l n = if nat_le l h && (nat_lt h (width_of n.kind) && is_some (range_of n.kind (h - l + 1))) then Some (part h l n.word) else None

-- the number from 0 to 2^32 - 1
abbrev pub small_of : ℤ → Option ℕ
small_of (pos n) = if nat_lt n 4294967296 then Some n else None
small_of (negsuc n) = None

unfoldable pub small : Number → Option ℕ
small n = small_of (exactly n)

abbrev pub bit_at : ℕ → Option ℕ → ℕ
bit_at x None = 0
bit_at x (Some i) = if nat_eq (x / 2 ^ i % 2) 1 then 1 else 0

-- the bit of that number; 0 past the width
unfoldable pub bit : Number → Number → ℕ
bit n i = bit_at n.word (small i)

-- the bits of one number above those of another
unfoldable pub above : Number → Number → Option Number
above a b = if nat_le (width_of a.kind + width_of b.kind) 128 then option_map (λ k. record { kind = k; word = joined (width_of b.kind) a.word b.word }) (concat_of a.kind b.kind) else None

-- the numbers of a list behind one, the highest first; none where one of them has none
abbrev pub above_all : Number → List (Option Number) → Option Number
above_all v [] = Some v
above_all v (n ∷ ns) = option_and_then (λ low. option_and_then (λ whole. above_all whole ns) (above v low)) n

abbrev pub all_joined : List (Option Number) → Option Number
all_joined [] = None
all_joined (n ∷ ns) = option_and_then (λ v. above_all v ns) n
