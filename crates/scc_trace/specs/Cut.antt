-- A text cut into lines, and a line into words. This project's own.
use Rattle.std.specs.Prelude.{ℕ, suc, nat_eq, cond, List, [], ◌∷◌}

abbrev pub Bytes : Type 0
Bytes = List ℕ

-- some bytes of a text, and where the first of them stands
pub record Piece : Type 0 where
  pub at : ℕ
  pub bytes : Bytes

-- with a byte before the first piece, which then begins here
abbrev pub onto : ℕ → ℕ → List Piece → List Piece
onto at b [] = record { at = at; bytes = b ∷ [] } ∷ []
onto at b (p ∷ ps) = record { at = at; bytes = b ∷ p.bytes } ∷ ps

-- The lines of a text that begins here. A line feed ends each; the last may lack it.
unfoldable pub lines : ℕ → Bytes → List Piece
lines at [] = []
lines at (b ∷ bs) = cond (nat_eq b 10) (record { at = at; bytes = [] } ∷ lines (suc at) bs) (onto at b (lines (suc at) bs))

-- The words of a line that begins here. One blank stands between two words, and a word may be empty.
unfoldable pub words : ℕ → Bytes → List Piece
words at [] = record { at = at; bytes = [] } ∷ []
words at (b ∷ bs) = cond (nat_eq b 32) (record { at = at; bytes = [] } ∷ words (suc at) bs) (onto at b (words (suc at) bs))

-- the bytes before the first separator
unfoldable pub first : ℕ → Bytes → Bytes
first s [] = []
first s (b ∷ bs) = cond (nat_eq b s) [] (b ∷ first s bs)

-- those from it on
unfoldable pub others : ℕ → Bytes → Bytes
others s [] = []
others s (b ∷ bs) = cond (nat_eq b s) (b ∷ bs) (others s bs)

-- the lines behind a line, by what is left of the text from the end of that line on
abbrev pub lines_behind : ℕ → Bytes → List Piece
lines_behind at [] = []
lines_behind at (b ∷ bs) = lines (suc at) bs

-- the words behind a word
abbrev pub words_behind : ℕ → Bytes → List Piece
words_behind at [] = []
words_behind at (b ∷ bs) = words (suc at) bs
