-- Words and marks by their numbers in the lists of the source.
use Rattle.std.specs.Prelude.{ℕ, List, take, length, min, Bool, Option, Some, None, option_map, position, bytes_eq, is_some, slice_get}
use Rattle.scc_tokens_lexer.specs.declared.words.TheConstants.{WORDS, OUTSIDE_WORDS, MARKS}

-- the number of a word that the subset keeps for itself
abbrev pub word_index : List ℕ → Option ℕ
word_index text = position (λ w. bytes_eq w.now text) WORDS

-- a word of C++ or SystemC that the subset leaves out
abbrev pub is_outside : List ℕ → Bool
is_outside text = is_some (position (λ w. bytes_eq w.now text) OUTSIDE_WORDS)

-- the number of a mark
abbrev pub mark_index : List ℕ → Option ℕ
mark_index text = position (λ w. bytes_eq w.now text) MARKS

-- the text of a word and of a mark, by its number
abbrev pub word_text : ℕ → Option (List ℕ)
word_text i = option_map (λ w. w.now) (slice_get WORDS i)

abbrev pub mark_text : ℕ → Option (List ℕ)
mark_text i = option_map (λ w. w.now) (slice_get MARKS i)

-- the mark that the first bytes are, at most so many, with its length
abbrev pub mark_of : List ℕ → ℕ → Option (ℕ × ℕ)
mark_of text most = option_map (λ i. (i, min most (length text))) (mark_index (take (min most (length text)) text))

abbrev pub first_some : Option (ℕ × ℕ) → Option (ℕ × ℕ) → Option (ℕ × ℕ)
first_some None b = b
first_some (Some a) b = Some a

-- the longest mark at the front, with its length
unfoldable pub mark_at : List ℕ → Option (ℕ × ℕ)
mark_at text = first_some (mark_of text 3) (first_some (mark_of text 2) (mark_of text 1))
