-- Classes of words.
use Rattle.std.specs.Prelude.{ℕ, List, [], ◌∷◌, ◌+◌, ◌-◌, ◌*◌, Option, Some, None, Bool, false, not, ◌&&◌, ◌||◌, ◌==◌, nat_le, if◌then◌else◌}
use Rattle.std.specs.List.{list_all}

abbrev pub is_digit : ℕ → Bool
is_digit b = nat_le 48 b && nat_le b 57

abbrev pub is_letter : ℕ → Bool
is_letter b = (nat_le 65 b && nat_le b 90) || (nat_le 97 b && nat_le b 122) || b == 95

abbrev pub is_word_byte : ℕ → Bool
is_word_byte b = is_digit b || is_letter b

-- a name: letters, digits and underscores, not beginning with a digit
abbrev pub is_top : List ℕ → Bool
is_top [] = false
is_top (b ∷ bs) = is_letter b && list_all is_word_byte bs

-- not empty, and not beginning with `-`
abbrev pub is_plain : List ℕ → Bool
is_plain [] = false
is_plain (b ∷ bs) = not (b == 45)

abbrev pub is_first : ℕ → Bool
is_first b = nat_le 49 b && nat_le b 57

abbrev pub digit : ℕ → ℕ
digit b = b - 48

-- a decimal from 1 to 1,000 without leading zero or sign
abbrev pub count_of : List ℕ → Option ℕ
count_of (a ∷ []) = if is_first a then Some (digit a) else None
count_of (a ∷ b ∷ []) = if is_first a && is_digit b then Some (10 * digit a + digit b) else None
count_of (a ∷ b ∷ c ∷ []) = if is_first a && is_digit b && is_digit c then Some (100 * digit a + 10 * digit b + digit c) else None
count_of (a ∷ b ∷ c ∷ d ∷ []) = if a == 49 && b == 48 && c == 48 && d == 48 then Some 1000 else None
count_of _ = None
