-- Reading the smallest pieces as functions.
use Rattle.std.specs.Prelude.{ℕ, zero, suc, nat_eq, nat_le, Bool, cond, ◌&&◌, if◌then◌else◌, [], ◌∷◌, ◌++◌, codes, Option, Some, None, Ok}
use Rattle.scc_reading.specs.Reading.{Parser, ◌>>=◌, ◌>>◌, pure, fail, token, choose}
use Rattle.scc_svtree.specs.Sound.{is_letter, is_word_byte}
use Rattle.scc_svtext.specs.Keyword.{is_keyword, begins_keyword}
use Rattle.scc_svread_grammar.specs.declared.raw.RawLiteral.{RawLiteral}
use Rattle.scc_svread_grammar.specs.declared.raw.RawSelect.{RawSelect}
use Rattle.scc_svread_grammar.specs.declared.raw.RawSelect.TheVariants.{Whole, Bit, Range}
use Rattle.scc_svread_grammar.specs.declared.raw.RawLeft.{RawLeft}
use Rattle.scc_svread_grammar.specs.Lexical.{Bytes, is_digit, is_hex_digit, digits_of}

-- ---- bytes

abbrev pub passes : (ℕ → Bool) → ℕ → Option ℕ
passes test b = if test b then Some b else None

abbrev pub is_byte : ℕ → ℕ → Option (Unit {0})
is_byte b c = if nat_eq c b then Some tt else None

-- these bytes
unfoldable pub text : Bytes → Parser ℕ (Unit {0})
text [] = pure tt
text (b ∷ w) = token (is_byte b) >> text w

-- the bytes from the front on that pass a test, and those from the first on that doesn't
unfoldable pub run_word : (ℕ → Bool) → Bytes → Bytes
run_word test [] = []
run_word test (b ∷ bs) = cond (test b) (b ∷ run_word test bs) []

unfoldable pub run_rest : (ℕ → Bool) → Bytes → Bytes
run_rest test [] = []
run_rest test (b ∷ bs) = cond (test b) (run_rest test bs) (b ∷ bs)

unfoldable pub run : (ℕ → Bool) → Parser ℕ Bytes
run test ts = Ok (run_word test ts, run_rest test ts)

-- so many bytes that pass a test
unfoldable pub count : (ℕ → Bool) → ℕ → Parser ℕ Bytes
count test zero = pure []
count test (suc n) = token (passes test) >>= λ b. count test n >>= λ more. pure (b ∷ more)

-- ---- numbers

abbrev pub is_positive_digit : ℕ → Bool
is_positive_digit b = nat_le 49 b && nat_le b 57

abbrev pub is_zero : ℕ → Bool
is_zero b = nat_eq b 48

unfoldable pub positive : Parser ℕ Bytes
positive = token (passes is_positive_digit) >>= λ b. run is_digit >>= λ more. pure (b ∷ more)

unfoldable pub decimal : Parser ℕ Bytes
decimal = choose is_zero (text (codes "0") >> pure (codes "0")) positive

abbrev pub literal_of : Bytes → Bytes → RawLiteral
literal_of width digits = record { width = width; digits = digits }

-- a literal from behind its `'h`
unfoldable pub digits_behind : Bytes → Parser ℕ RawLiteral
digits_behind width = count is_hex_digit (digits_of width) >>= λ digits. pure (literal_of width digits)

unfoldable pub literal : Parser ℕ RawLiteral
literal = do
  width ← decimal
  text (codes "'h")
  digits_behind width

-- ---- names

abbrev pub is_back : ℕ → Bool
is_back b = nat_eq b 92

-- the longest front part that begins a reserved word, behind the bytes before it
unfoldable pub keyword_word : Bytes → Bytes → Bytes
keyword_word before [] = []
keyword_word before (b ∷ bs) = cond (begins_keyword (before ++ b ∷ [])) (b ∷ keyword_word (before ++ b ∷ []) bs) []

unfoldable pub keyword_rest : Bytes → Bytes → Bytes
keyword_rest before [] = []
keyword_rest before (b ∷ bs) = cond (begins_keyword (before ++ b ∷ [])) (keyword_rest (before ++ b ∷ []) bs) (b ∷ bs)

-- a reserved word and a blank behind it
unfoldable pub closed_word : Bytes → Parser ℕ Bytes
closed_word w = if is_keyword w then (text (codes " ") >> pure w) else fail

unfoldable pub escaped : Parser ℕ Bytes
escaped ts = closed_word (keyword_word [] ts) (keyword_rest [] ts)

-- a word that is to be no reserved one
unfoldable pub named : Bytes → Parser ℕ Bytes
named w = if is_keyword w then fail else pure w

-- letters, digits, `_` and `$`, the first of which is a letter or `_`
unfoldable pub plain_word : Parser ℕ Bytes
plain_word = token (passes is_letter) >>= λ b. run is_word_byte >>= λ more. pure (b ∷ more)

unfoldable pub plain_name : Parser ℕ Bytes
plain_name = plain_word >>= named

unfoldable pub name : Parser ℕ Bytes
name = choose is_back (text (codes "\\") >> escaped) plain_name

-- ---- selects

abbrev pub is_bracket : ℕ → Bool
is_bracket b = nat_eq b 91

abbrev pub is_colon : ℕ → Bool
is_colon b = nat_eq b 58

-- a select from behind its first number
unfoldable pub select_behind : Bytes → Parser ℕ RawSelect
select_behind h = choose is_colon (do
  text (codes ":")
  l ← decimal
  text (codes "]")
  pure (Range h l)) (text (codes "]") >> pure (Bit h))

unfoldable pub select : Parser ℕ RawSelect
select = choose is_bracket (do
  text (codes "[")
  h ← decimal
  select_behind h) (pure Whole)

abbrev pub left_of : Bytes → RawSelect → RawLeft
left_of w s = record { name = w; select = s }

-- a variable or a part of it from behind its name
unfoldable pub left_behind : Bytes → Parser ℕ RawLeft
left_behind w = select >>= λ s. pure (left_of w s)

unfoldable pub left : Parser ℕ RawLeft
left = name >>= left_behind

-- the range of a declaration
unfoldable pub range : Parser ℕ (Option Bytes)
range = choose is_bracket (do
  text (codes "[")
  high ← positive
  text (codes ":0] ")
  pure (Some high)) (pure None)
