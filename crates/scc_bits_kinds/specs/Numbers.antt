-- Whole numbers, the words of w bits that hold them, and their bits in two's complement.
-- IEEE 1666-2011, 7.5 and 7.6: a signed integer type is read in two's complement.
use Rattle.std.specs.Prelude.{ℕ, ◌-◌, ◌*◌, ◌%◌, ◌/◌, ◌^◌, ◌<◌, Bool, true, false, cond, nat_lt, ℤ, pos, negsuc, ◌+ℤ◌, ◌-ℤ◌, bit_and, bit_or}

-- the word of a number in w bits: its low bits in two's complement
abbrev pub low : ℕ → ℤ → ℕ
low w (pos n) = n % 2 ^ w
low w (negsuc n) = 2 ^ w - 1 - n % 2 ^ w

-- the number that a word of w bits stands for, signed or not
abbrev pub reading : Bool → ℕ → ℕ → ℤ
reading false w x = pos x
reading true w x = cond (nat_lt (2 * x) (2 ^ w)) (pos x) (negsuc (2 ^ w - 1 - x))

-- the numbers that w bits hold: from 0 to 2^w - 1, or from -2^(w-1) to 2^(w-1) - 1
abbrev pub Holds : Bool → ℕ → ℤ → Type 0
Holds false w (pos n) = n < 2 ^ w
Holds false w (negsuc n) = ⊥
Holds true w (pos n) = 2 * n < 2 ^ w
Holds true w (negsuc n) = 2 * n < 2 ^ w

-- the number whose bits are those that both numbers have
abbrev pub both : ℤ → ℤ → ℤ
both (pos a) (pos b) = pos (bit_and a b)
both (pos a) (negsuc b) = pos (a - bit_and a b)
both (negsuc a) (pos b) = pos (b - bit_and b a)
both (negsuc a) (negsuc b) = negsuc (bit_or a b)

-- the bits that at least one of both numbers has
abbrev pub either : ℤ → ℤ → ℤ
either x y = (x +ℤ y) -ℤ both x y

-- the bits that exactly one of both numbers has
abbrev pub differing : ℤ → ℤ → ℤ
differing x y = either x y -ℤ both x y

-- the quotient by 2^k, rounded down
abbrev pub halved : ℤ → ℕ → ℤ
halved (pos n) k = pos (n / 2 ^ k)
halved (negsuc n) k = negsuc (n / 2 ^ k)

-- a truth value as a number
abbrev pub bit : Bool → ℤ
bit true = pos 1
bit false = pos 0
