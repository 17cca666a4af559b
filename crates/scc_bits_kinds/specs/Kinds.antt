-- Kinds of numbers, their words, and conversion (IEEE 1666-2011, 7.2.1, 7.2.4 and 7.2.9).
use Rattle.std.specs.Prelude.{◌≡◌, ℕ, ◌≤◌, ◌<◌, ◌^◌, min, Bool, true, false, if◌then◌else◌, ◌⊎◌, ℤ}
use Rattle.scc_bits_kinds.specs.declared.kind.Kind.{Kind}
use Rattle.scc_bits_kinds.specs.declared.kind.Kind.TheVariants as kind
use Rattle.scc_bits_kinds.specs.Numbers.{low, reading}
use Rattle.scc_bits_kinds.specs.Operators.{truth}

-- the kinds that there are
abbrev pub IsValid : Kind → Type 0
IsValid kind.Bool = Unit {0}
IsValid (kind.Native w s) = (w ≡ 8) ⊎ (w ≡ 16) ⊎ (w ≡ 32) ⊎ (w ≡ 64)
IsValid (kind.Int w) = (1 ≤ w) × (w ≤ 64)
IsValid (kind.Uint w) = (1 ≤ w) × (w ≤ 64)
IsValid (kind.Big w) = (1 ≤ w) × (w ≤ 128)
IsValid (kind.BigInt w) = (1 ≤ w) × (w ≤ 128)
IsValid (kind.Bv w) = (1 ≤ w) × (w ≤ 128)
IsValid (kind.Wide b s) = (1 ≤ b) × (b ≤ 255)

-- the bits of a kind's words; of a Wide of more than 128 bits the low 128 are held
abbrev pub width_of : Kind → ℕ
width_of kind.Bool = 1
width_of (kind.Native w s) = w
width_of (kind.Int w) = w
width_of (kind.Uint w) = w
width_of (kind.Big w) = w
width_of (kind.BigInt w) = w
width_of (kind.Bv w) = w
width_of (kind.Wide b s) = min b 128

-- whether a kind's words are read in two's complement
abbrev pub is_signed : Kind → Bool
is_signed kind.Bool = false
is_signed (kind.Native w s) = s
is_signed (kind.Int w) = true
is_signed (kind.Uint w) = false
is_signed (kind.Big w) = false
is_signed (kind.BigInt w) = true
is_signed (kind.Bv w) = false
is_signed (kind.Wide b s) = s

abbrev pub is_bool : Kind → Bool
is_bool kind.Bool = true
is_bool _ = false

-- the words of a kind
abbrev pub Fits : Kind → ℕ → Type 0
Fits k x = x < 2 ^ width_of k

-- the value of a word in a kind
abbrev pub number_of : Kind → ℕ → ℤ
number_of k x = reading (is_signed k) (width_of k) x

-- the word of a number converted to a kind: of Bool whether the number isn't 0, else its low bits
abbrev pub stored : Kind → ℤ → ℕ
stored k z = if is_bool k then (if truth z then 1 else 0) else low (width_of k) z

-- the value of a number converted to a kind
abbrev pub converted : Kind → ℤ → ℤ
converted k z = number_of k (stored k z)
