-- The names of a module as it is written, and its numbers.
use Rattle.std.specs.Prelude.{ℕ, ◌-◌, ◌^◌, min, nat_le, nat_lt, Bool, true, false, not, ◌&&◌, ◌||◌, if◌then◌else◌, List, [], ◌∷◌, bytes_eq, Option, Some, None}
use Rattle.scc_svread_grammar.specs.declared.raw.RawVar.{RawVar}
use Rattle.scc_svread_grammar.specs.declared.raw.RawLiteral.{RawLiteral}
use Rattle.scc_svread_grammar.specs.Lexical.{Bytes, number}
use Rattle.scc_svread_check.specs.Numbers.{word_number}

-- ---- numbers

-- the greatest number that is told from others; greater ones count as it
abbrev pub greatest : ℕ
greatest = 2 ^ 128 - 1

abbrev pub number_in : Bytes → ℕ
number_in digits = min (number digits) greatest

abbrev pub hex_in : Bytes → ℕ
hex_in digits = word_number digits

abbrev pub is_width : ℕ → Bool
is_width n = nat_le 1 n && nat_le n 128

-- a width outside 1 to 128, or a number of more bits than that
abbrev pub is_wrong_literal : RawLiteral → Bool
is_wrong_literal l = not (is_width (number_in l.width)) || not (nat_lt (hex_in l.digits) (2 ^ number_in l.width))

-- ---- names

-- The names of variables in the order in which they are first declared, each with the number of its highest bit, or with None where
-- it is declared more than once.
abbrev pub Scope : Type 0
Scope = List (Bytes × Option ℕ)

-- how a name is declared
abbrev pub entry_of : Scope → Bytes → Option (Option ℕ)
entry_of [] name = None
entry_of (e ∷ es) name = if bytes_eq name e.0 then Some e.1 else entry_of es name

abbrev pub put : Scope → Bytes → Option ℕ → Scope
put [] name high = (name, high) ∷ []
put (e ∷ es) name high = if bytes_eq name e.0 then (e.0, high) ∷ es else e ∷ put es name high

abbrev pub high_in : Option Bytes → ℕ
high_in None = 0
high_in (Some digits) = number_in digits

-- the number of a variable's highest bit; a variable of one bit has no range
abbrev pub high_of : RawVar → ℕ
high_of v = high_in v.high

-- a first declaration, or a further one
abbrev pub once_more : ℕ → Option (Option ℕ) → Option ℕ
once_more high None = Some high
once_more high (Some before) = None

abbrev pub declare : Scope → RawVar → Scope
declare s v = put s v.name (once_more (high_of v) (entry_of s v.name))

abbrev pub declare_all : Scope → List RawVar → Scope
declare_all s [] = s
declare_all s (v ∷ vs) = declare_all (declare s v) vs

abbrev pub is_named : Option (Option ℕ) → Bool
is_named None = false
is_named (Some n) = true

abbrev pub is_declared : Scope → Bytes → Bool
is_declared s name = is_named (entry_of s name)

abbrev pub found_once : Option (Option ℕ) → Option ℕ
found_once None = None
found_once (Some n) = n

-- the number of a name's highest bit, where it is declared exactly once
abbrev pub once : Scope → Bytes → Option ℕ
once s name = found_once (entry_of s name)
