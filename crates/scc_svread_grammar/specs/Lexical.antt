-- The smallest pieces of an emitted text, from its bytes: numbers, names, literals and selects. `R ts rest x` says that the
-- bytes `ts` are x, and then `rest`.
use Rattle.std.specs.Prelude.{◌≡◌, ℕ, ◌+◌, ◌-◌, ◌*◌, ◌/◌, nat_le, Bool, true, false, ◌||◌, ◌&&◌, List, [], ◌∷◌, ◌++◌, length, codes, bytes_eq, Option, Some, None}
use Rattle.scc_svtree.specs.Sound.{is_simple}
use Rattle.scc_svtext.specs.Pieces.{spelled}
use Rattle.scc_svread_grammar.specs.declared.raw.RawLiteral.{RawLiteral}
use Rattle.scc_svread_grammar.specs.declared.raw.RawSelect.{RawSelect}
use Rattle.scc_svread_grammar.specs.declared.raw.RawSelect.TheVariants.{Whole, Bit, Range}
use Rattle.scc_svread_grammar.specs.declared.raw.RawLeft.{RawLeft}

abbrev pub Bytes : Type 0
Bytes = List ℕ

-- ---- numbers

abbrev pub is_digit : ℕ → Bool
is_digit b = nat_le 48 b && nat_le b 57

abbrev pub is_hex_digit : ℕ → Bool
is_hex_digit b = is_digit b || (nat_le 97 b && nat_le b 102)

abbrev pub all_pass : (ℕ → Bool) → Bytes → Bool
all_pass test [] = true
all_pass test (b ∷ bs) = test b && all_pass test bs

-- a number above 0, without a zero before it
abbrev pub is_positive : Bytes → Bool
is_positive [] = false
is_positive (b ∷ bs) = nat_le 49 b && nat_le b 57 && all_pass is_digit bs

abbrev pub is_decimal : Bytes → Bool
is_decimal n = bytes_eq n (codes "0") || is_positive n

-- the number that decimal digits stand for, behind those of a number before them
abbrev pub number_from : ℕ → Bytes → ℕ
number_from before [] = before
number_from before (b ∷ bs) = number_from (10 * before + (b - 48)) bs

abbrev pub number : Bytes → ℕ
number = number_from 0

abbrev pub ReadsDecimal : Bytes → Bytes → Bytes → Type 0
ReadsDecimal ts r n = (ts ≡ n ++ r) × (is_decimal n ≡ true)

-- how many digits of base 16 a width has
abbrev pub digits_of : Bytes → ℕ
digits_of width = (number width + 3) / 4

-- A literal (IEEE 1800-2017, 5.7.1): its width, and as many digits of base 16 as that has, of which the standard lets some be left out.
abbrev pub ReadsLiteral : Bytes → Bytes → RawLiteral → Type 0
ReadsLiteral ts r l = (ts ≡ l.width ++ (codes "'h" ++ (l.digits ++ r))) × (is_decimal l.width ≡ true) × (all_pass is_hex_digit l.digits ≡ true) × (length l.digits ≡ digits_of l.width)

-- ---- names

-- a simple name, which is escaped where it is a reserved word (IEEE 1800-2017, 5.6)
abbrev pub ReadsName : Bytes → Bytes → Bytes → Type 0
ReadsName ts r name = (ts ≡ spelled name ++ r) × (is_simple name ≡ true)

abbrev pub ReadsSelect : Bytes → Bytes → RawSelect → Type 0
ReadsSelect ts r Whole = ts ≡ r
ReadsSelect ts r (Bit at) = (ts ≡ codes "[" ++ (at ++ (codes "]" ++ r))) × (is_decimal at ≡ true)
ReadsSelect ts r (Range h l) = (ts ≡ codes "[" ++ (h ++ (codes ":" ++ (l ++ (codes "]" ++ r))))) × (is_decimal h ≡ true) × (is_decimal l ≡ true)

-- a variable, one bit of it, or a range of its bits
abbrev pub ReadsLeft : Bytes → Bytes → RawLeft → Type 0
ReadsLeft ts r l = (mid : Bytes) × ReadsName ts mid l.name × ReadsSelect mid r l.select

-- the range of a declaration, by the number of its highest bit; a variable of one bit has none
abbrev pub ReadsRange : Bytes → Bytes → Option Bytes → Type 0
ReadsRange ts r None = ts ≡ r
ReadsRange ts r (Some high) = (ts ≡ codes "[" ++ (high ++ (codes ":0] " ++ r))) × (is_positive high ≡ true)
