-- The smallest pieces of the text: names, numbers, literals, selects and blanks.
use Rattle.std.specs.Prelude.{ℕ, zero, suc, ◌+◌, ◌-◌, ◌*◌, ◌/◌, ◌%◌, ◌^◌, List, [], ◌∷◌, ◌++◌, codes, decimal, slice_get, unwrap_or, replicate, if◌then◌else◌, nat_le, nat_lt}
use Rattle.scc_svtree.specs.declared.expr.SvLeft.{SvLeft}
use Rattle.scc_svtree.specs.declared.expr.SvLeft.TheVariants.{Whole, Bit, Range}
use Rattle.scc_svtext.specs.declared.fixed.Fixed.TheVariants as piece
use Rattle.scc_svtext.specs.Fixed.{fixed_text}
use Rattle.scc_svtext.specs.Keyword.{is_keyword}

-- A name as it is written: a reserved word is escaped (IEEE 1800-2017, 5.6.1).
abbrev pub spelled : List ℕ → List ℕ
spelled name = if is_keyword name then codes "\\" ++ name ++ codes " " else name

-- the spelling of a variable, by its number
abbrev pub name_at : List (List ℕ) → ℕ → List ℕ
name_at names i = unwrap_or (slice_get names i) []

abbrev pub digit : ℕ → ℕ
digit d = if nat_lt d 10 then 48 + d else 87 + d

-- so many low digits of base 16, the highest first
unfoldable pub hex_text : ℕ → ℕ → List ℕ
hex_text zero v = []
hex_text (suc n) v = digit (v / 2 ^ (4 * n) % 16) ∷ hex_text n v

-- A literal: its width and all its digits (IEEE 1800-2017, 5.7.1).
abbrev pub literal_text : ℕ → ℕ → List ℕ
literal_text width value = decimal width ++ fixed_text piece.Hex ++ hex_text ((width + 3) / 4) value

-- A variable, one bit of it, or its bits h down to l (IEEE 1800-2017, 11.5.1).
abbrev pub left_text : List (List ℕ) → SvLeft → List ℕ
left_text names (Whole v) = name_at names v.0
left_text names (Bit v at) = name_at names v.0 ++ fixed_text piece.SelectOpen ++ decimal at ++ fixed_text piece.SelectClose
left_text names (Range v h l) = name_at names v.0 ++ fixed_text piece.SelectOpen ++ decimal h ++ fixed_text piece.SelectColon ++ decimal l ++ fixed_text piece.SelectClose

abbrev pub blanks : ℕ → List ℕ
blanks n = replicate n 32

-- The range of a declaration; one bit has none.
abbrev pub range_text : ℕ → List ℕ
range_text width = if nat_le width 1 then [] else fixed_text piece.SelectOpen ++ decimal (width - 1) ++ fixed_text piece.RangeClose
