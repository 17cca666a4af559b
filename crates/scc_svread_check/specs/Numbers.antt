-- The numbers that digits stand for.
use Rattle.std.specs.Prelude.{ℕ, ◌+◌, ◌-◌, ◌*◌, ◌^◌, min, nat_le, [], ◌∷◌, if◌then◌else◌}
use Rattle.scc_svread_grammar.specs.Lexical.{Bytes, number}

-- `0` to `9` and `a` to `f` (IEEE 1800-2017, 5.7.1)
abbrev pub digit_value : ℕ → ℕ
digit_value b = if nat_le b 57 then b - 48 else b - 87

-- the number that digits of base 16 stand for, behind those of a number before them
abbrev pub hex_from : ℕ → Bytes → ℕ
hex_from before [] = before
hex_from before (b ∷ bs) = hex_from (16 * before + digit_value b) bs

abbrev pub hex_number : Bytes → ℕ
hex_number = hex_from 0

-- Decimal digits past 2^32 - 1, and digits of base 16 past 2^128 - 1, count as these: a module without faults has smaller ones.
abbrev pub small_number : Bytes → ℕ
small_number digits = min (number digits) (2 ^ 32 - 1)

abbrev pub word_number : Bytes → ℕ
word_number digits = min (hex_number digits) (2 ^ 128 - 1)
