-- Classes of bytes (C++, "Preprocessing tokens").
use Rattle.std.specs.Prelude.{ℕ, Bool, ◌||◌, ◌&&◌, ◌==◌, nat_le}

-- a space, a tab or a carriage return
abbrev pub is_blank : ℕ → Bool
is_blank b = b == 32 || b == 9 || b == 13

abbrev pub is_digit : ℕ → Bool
is_digit b = nat_le 48 b && nat_le b 57

abbrev pub is_alphabetic : ℕ → Bool
is_alphabetic b = (nat_le 65 b && nat_le b 90) || (nat_le 97 b && nat_le b 122)

-- a letter or an underscore
abbrev pub is_letter : ℕ → Bool
is_letter b = is_alphabetic b || b == 95

-- what an identifier is made of
abbrev pub is_word_byte : ℕ → Bool
is_word_byte b = is_letter b || is_digit b

-- what a number is made of: letters, digits and points
abbrev pub is_number_byte : ℕ → Bool
is_number_byte b = is_alphabetic b || is_digit b || b == 46

-- what a text is made of
abbrev pub is_printable : ℕ → Bool
is_printable b = nat_le 32 b && nat_le b 126
