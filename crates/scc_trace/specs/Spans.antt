-- Spans of the code as pieces. This project's own.
use Rattle.std.specs.Prelude.{ℕ, ◌+◌, length, List, [], Option, Some, None}
use Rattle.scc_trace.specs.declared.span.Span.{Span}
use Rattle.scc_trace.specs.Cut.{Piece, lines, words, words_behind}

abbrev pub piece_of : Span → Piece
piece_of s = record { at = s.at; bytes = s.bytes.now }

-- where a span ends
abbrev pub end_of : Span → ℕ
end_of s = s.at + length s.bytes.now

abbrev pub lines_in : Span → List Piece
lines_in s = lines s.at s.bytes.now

abbrev pub words_in : Span → List Piece
words_in s = words s.at s.bytes.now

-- the words behind a word, by what stands from the blank behind it on
abbrev pub words_behind_in : Span → List Piece
words_behind_in s = words_behind s.at s.bytes.now

abbrev pub words_next : Option Span → List Piece
words_next None = []
words_next (Some s) = words_in s
