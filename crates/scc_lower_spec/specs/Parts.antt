-- Texts of identifiers and numbers, joined by `$`. This project's own.
use Rattle.std.specs.Prelude.{◌≡◌, ℕ, ◌^◌, ◌<◌, nat_eq, nat_le, Bool, true, false, ◌&&◌, ◌||◌, List, [], ◌∷◌, ◌++◌, slice_get, Some, unwrap_or, decimal}
use Rattle.std.specs.List.{flat_map, list_all}
use Rattle.scc_base.specs.declared.path.PathPart.{PathPart}
use Rattle.scc_base.specs.declared.path.PathPart.TheVariants.{Member, Index}

abbrev pub text_at : List (List ℕ) → ℕ → List ℕ
text_at names i = unwrap_or (slice_get names i) []

abbrev pub part_text : List (List ℕ) → PathPart → List ℕ
part_text names (Member name) = text_at names name.0
part_text names (Index i) = decimal i

-- parts behind another, each after a `$`
abbrev pub behind : List (List ℕ) → List PathPart → List ℕ
behind names ps = flat_map (λ p. 36 ∷ part_text names p) ps

abbrev pub joined : List (List ℕ) → List PathPart → List ℕ
joined names [] = []
joined names (p ∷ ps) = part_text names p ++ behind names ps

-- ---- identifiers

abbrev pub is_digit : ℕ → Bool
is_digit b = nat_le 48 b && nat_le b 57

abbrev pub is_letter : ℕ → Bool
is_letter b = (nat_le 97 b && nat_le b 122) || (nat_le 65 b && nat_le b 90) || nat_eq b 95

abbrev pub is_word_byte : ℕ → Bool
is_word_byte b = is_letter b || is_digit b

-- letters, digits and `_`, first no digit (C++ [lex.name])
abbrev pub is_identifier : List ℕ → Bool
is_identifier [] = false
is_identifier (b ∷ bs) = is_letter b && list_all is_word_byte bs

-- a member's name is an identifier that the table has, and an index has 32 bits
abbrev pub IsPart : List (List ℕ) → PathPart → Type 0
IsPart names (Member name) = (text : List ℕ) × (slice_get names name.0 ≡ Some text) × (is_identifier text ≡ true)
IsPart names (Index i) = i < 2 ^ 32

abbrev pub AreParts : List (List ℕ) → List PathPart → Type 0
AreParts names [] = Unit {0}
AreParts names (p ∷ ps) = IsPart names p × AreParts names ps
